use Rattle.std.proofs.Common.{◌≡◌, ◌∙◌, sym, rules, w32, to_z, of_z}
use Rattle.calendar_values.specs.Reciprocal.{shifted_day, step_year, step_leap, step_ordinal}
use Rattle.calendar_values.specs.ReciprocalLemmas.{year_of-step, is_leap_year-step, ordinal_of-step, IsOrdinalDateOfRange-found, day_of_ordinal_date-step}
use Rattle.calendar_values.specs.ReciprocalLemmas.{IsInRange-found}
use Rattle.stamp_times.proofs.reciprocal.year_leap_ordinal.Goals as goal

-- what the steps found
year : (c : goal.After-year_of_shift) → to_z w32 (of_z w32 c.year_of_shift.result) ≡ step_year (shifted_day c.args.day)
year c = search rules

ordinal : (c : goal.After-year_of_shift) → c.years_leap_ordinal-years.result.2 ≡ step_ordinal (shifted_day c.args.day)
ordinal c = search rules

pub returns-clause-year : goal.returns-clause-year
returns-clause-year c = year c ∙ sym (year_of-step c.args.day c.requires)

pub returns-clause-leap : goal.returns-clause-leap
returns-clause-leap c =
    let leap : c.years_leap_ordinal-years.result.1 ≡ step_leap (shifted_day c.args.day) = search rules in
    leap ∙ sym (is_leap_year-step c.args.day c.requires)

pub returns-clause-ordinal : goal.returns-clause-ordinal
returns-clause-ordinal c = ordinal c ∙ sym (ordinal_of-step c.args.day c.requires)

pub returns-clause-date : goal.returns-clause-date
returns-clause-date c = rw (year c, ordinal c) (IsOrdinalDateOfRange-found c.args.day c.requires)

pub returns-clause-day : goal.returns-clause-day
returns-clause-day c = rw (year c, ordinal c) (day_of_ordinal_date-step c.args.day c.requires)

pub returns-clause-ordinal_in_range : goal.returns-clause-ordinal_in_range
returns-clause-ordinal_in_range c = rw (ordinal c) (IsInRange-found c.args.day c.requires)

pub returns-clause-year_by_steps : goal.returns-clause-year_by_steps
returns-clause-year_by_steps c = year c

pub returns-clause-ordinal_by_steps : goal.returns-clause-ordinal_by_steps
returns-clause-ordinal_by_steps c = ordinal c

use Rattle.std.proofs.Common.{rules, FitsSigned, w32, to_z-of_z}
use Rattle.calendar_values.proofs.YearGuessLemmas.{day_of_ordinal_date-counted, IsOrdinalDate-counted, IsYear-counted}
use Rattle.calendar_values.proofs.calendar.year_and_ordinal.Goals as goal

pub returns-clause-day : goal.returns-clause-day
returns-clause-day c =
    let fits : FitsSigned w32 c.year_from_first_cycle.result = search rules in
    let counted = rw (to_z-of_z c.ranges.day) at c.days_from_first_cycle.ensures.value in
    rw (to_z-of_z fits) (day_of_ordinal_date-counted c.args.day c.year_from_first_cycle.result _ _ _ counted c.year_from_first_cycle.ensures
    c.years_and_ordinal-years.ensures.day)

pub returns-clause-date : goal.returns-clause-date
returns-clause-date c =
    let fits : FitsSigned w32 c.year_from_first_cycle.result = search rules in
    rw (to_z-of_z fits) (IsOrdinalDate-counted c.year_from_first_cycle.result _ _ c.year_from_first_cycle.ensures
    c.years_and_ordinal-years.ensures.first c.years_and_ordinal-years.ensures.last)

pub returns-clause-year_in_range : goal.returns-clause-year_in_range
returns-clause-year_in_range c =
    let fits : FitsSigned w32 c.year_from_first_cycle.result = search rules in
    let counted = rw (to_z-of_z c.ranges.day) at c.days_from_first_cycle.ensures.value in
    rw (to_z-of_z fits) (IsYear-counted c.args.day c.year_from_first_cycle.result _ c.requires
    (IsOrdinalDate-counted c.year_from_first_cycle.result _ _ c.year_from_first_cycle.ensures
    c.years_and_ordinal-years.ensures.first c.years_and_ordinal-years.ensures.last)
    (day_of_ordinal_date-counted c.args.day c.year_from_first_cycle.result _ _ _ counted c.year_from_first_cycle.ensures
    c.years_and_ordinal-years.ensures.day))

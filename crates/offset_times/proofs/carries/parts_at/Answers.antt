use Rattle.std.proofs.Common.{◌≡◌, ◌∙◌, rules, ap, ℕ, to_z, of_z, w8, w32}
use Rattle.calendar_values.specs.DayLemmas.{IsOrdinalDate-of, day_of_ordinal_date-of}
use Rattle.offset_times.specs.Carries.{carried_clock}
use Rattle.offset_times.proofs.carries.parts_at.Goals as goal

pub ordinal_date_after-year-requires-clause-days : goal.ordinal_date_after-year-requires-clause-days
ordinal_date_after-year-requires-clause-days c =
    let days : to_z w8 (of_z w8 c.carried_time-time.result.1) ≡ c.carried_time-time.result.1 = search rules in
    rw (days, c.carried_time-time.ensures.days) c.carried_time-time.ensures.within.days

pub ordinal_date_after-year-requires-clause-year : goal.ordinal_date_after-year-requires-clause-year
ordinal_date_after-year-requires-clause-year c =
    let year : to_z w32 (of_z w32 c.to_ordinal_date-year.result.0) ≡ c.to_ordinal_date-year.result.0 = search rules in
    rw year c.to_ordinal_date-year.ensures.year_in_range

pub ordinal_date_after-year-requires-clause-date : goal.ordinal_date_after-year-requires-clause-date
ordinal_date_after-year-requires-clause-date c =
    let year : to_z w32 (of_z w32 c.to_ordinal_date-year.result.0) ≡ c.to_ordinal_date-year.result.0 = search rules in
    rw (year, c.to_ordinal_date-year.ensures.year, c.to_ordinal_date-year.ensures.ordinal) (IsOrdinalDate-of c.date.result)

pub returns-clause-date : goal.returns-clause-date
returns-clause-date c =
    let year : to_z w32 (of_z w32 c.ordinal_date_after-year.result.0) ≡ c.ordinal_date_after-year.result.0 = search rules in
    rw year c.ordinal_date_after-year.ensures.date

pub returns-clause-day_step : goal.returns-clause-day_step
returns-clause-day_step c =
    let later_year : to_z w32 (of_z w32 c.ordinal_date_after-year.result.0) ≡ c.ordinal_date_after-year.result.0 = search rules in
    let year : to_z w32 (of_z w32 c.to_ordinal_date-year.result.0) ≡ c.to_ordinal_date-year.result.0 = search rules in
    let days : to_z w8 (of_z w8 c.carried_time-time.result.1) ≡ c.carried_time-time.result.1 = search rules in
    let date = c.to_ordinal_date-year.ensures in
    rw later_year (rw (
      year,
      days,
      date.year,
      date.ordinal,
      day_of_ordinal_date-of c.date.result,
      c.date.ensures.value,
      c.carried_time-time.ensures.days,
      c.time.ensures.value,
    ) at c.ordinal_date_after-year.ensures.day)

pub returns-clause-carried : goal.returns-clause-carried
returns-clause-carried c = c.carried_time-time.ensures.clock ∙ ap (λ (t : ℕ). carried_clock t c.args.from c.args.to) c.time.ensures.value

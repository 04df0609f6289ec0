-- Lemmas for callers: the last day of a month by its number, and a count of a duration by that of a smaller unit.
use Rattle.std.proofs.Common.{◌≡◌, ℤ, pos, int_div, refl, arith}
use Rattle.calendar_values.specs.Calendar.{is_leap_year, days_in_month, day_of_calendar_date, year_of, month_of}
use Rattle.calendar_values.specs.Durations.{whole_milliseconds_of, whole_seconds_of, whole_hours_of, whole_days_of}
use Rattle.calendar_values.specs.Months.{last_of_month}
use Rattle.calendar_values.specs.SignedArith.{signed_arith, one_part}

-- the last day of a month has the number of the days of the month
pub last_of_month-by_days : (n : ℤ)
    → last_of_month n ≡ day_of_calendar_date (year_of n) (month_of n) (days_in_month (is_leap_year (year_of n)) (month_of n))
unfolding last_of_month
last_of_month-by_days n = refl

-- a caller who lists `last_by_days` replaces a day by the number of days of the month
pub ruleset last_by_days = last_of_month-by_days

-- the whole seconds are the milliseconds divided by 1,000, and the whole days the hours divided by 24
pub whole_seconds_of-by_milliseconds : (d : ℤ) → int_div (whole_milliseconds_of d) (pos 1_000) ≡ whole_seconds_of d
unfolding whole_seconds_of whole_milliseconds_of
whole_seconds_of-by_milliseconds d = omega (arith, signed_arith, one_part d)

pub whole_days_of-by_hours : (d : ℤ) → int_div (whole_hours_of d) (pos 24) ≡ whole_days_of d
unfolding whole_days_of whole_hours_of
whole_days_of-by_hours d = omega (arith, signed_arith, one_part d)

-- a caller who lists `smaller_units` divides a count to have that of a larger unit
pub ruleset smaller_units = (whole_seconds_of-by_milliseconds, whole_days_of-by_hours)

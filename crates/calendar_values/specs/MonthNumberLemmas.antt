-- The numbers of months, for callers that ask for their days.
use Rattle.std.proofs.Common.{ℤ, ◌≤◌, arith, to_z-of_z}
use Rattle.calendar_values.specs.Calendar.{is_leap_year, days_in_month, year_of, month_of, day_of_month_of}
use Rattle.calendar_values.specs.CalendarDateLemmas.{days_in_month_bounds, IsCalendarDate-of}
use Rattle.calendar_values.specs.Month.{month_number}
use Rattle.calendar_values.specs.declared.month.Month.{Month}
use Rattle.calendar_values.specs.declared.month.Month.TheVariants.{January, February, March, April, May, June, July, August, September, October, November}
use Rattle.calendar_values.specs.declared.month.Month.TheVariants.{December}

pub month_number_bounds : (m : Month) → (1 ≤ month_number m) × (month_number m ≤ 12)
month_number_bounds January = omega arith
month_number_bounds February = omega arith
month_number_bounds March = omega arith
month_number_bounds April = omega arith
month_number_bounds May = omega arith
month_number_bounds June = omega arith
month_number_bounds July = omega arith
month_number_bounds August = omega arith
month_number_bounds September = omega arith
month_number_bounds October = omega arith
month_number_bounds November = omega arith
month_number_bounds December = omega arith

-- the day of the month is one of the days of its month
pub day_of_month_bounds : (n : ℤ) → (1 ≤ day_of_month_of n) × (day_of_month_of n ≤ days_in_month (is_leap_year (year_of n)) (month_of n))
day_of_month_bounds n = let d = IsCalendarDate-of n in (d.day_first, d.day_last)

-- a caller who lists `months` once, at its root, asks for days of months
pub ruleset months = (days_in_month_bounds, day_of_month_bounds, month_number_bounds, to_z-of_z)

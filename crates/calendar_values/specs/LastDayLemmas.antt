-- The first and the last day of a month, for callers that read them or count the days up to them.
use Rattle.std.proofs.Common.{◌≡◌, ℤ, pos, ◌+ℤ◌, ◌-ℤ◌, ◌≤ℤ◌, arith}
use Rattle.calendar_values.specs.Calendar.{IsCalendarDate, is_leap_year, days_in_month, year_of, month_of, day_of_month_of}
use Rattle.calendar_values.specs.CalendarDateLemmas.{days_in_month_bounds, IsCalendarDate-of, day_of_calendar_date-of}
use Rattle.calendar_values.specs.CalendarDateLemmas.{year_of-calendar_date, month_of-calendar_date, day_of_month_of-calendar_date}
use Rattle.calendar_values.specs.Months.{first_of_month, last_of_month}
use Rattle.calendar_values.specs.SignedArith.{signed_arith}

-- each month has a first and a last day
IsCalendarDate-month_first : (n : ℤ) → IsCalendarDate (year_of n) (month_of n) 1
IsCalendarDate-month_first n =
    let date = IsCalendarDate-of n in
    omega (arith, days_in_month_bounds (is_leap_year (year_of n)) (month_of n), date.month_first, date.month_last)

IsCalendarDate-month_last : (n : ℤ) → IsCalendarDate (year_of n) (month_of n) (days_in_month (is_leap_year (year_of n)) (month_of n))
IsCalendarDate-month_last n =
    let date = IsCalendarDate-of n in
    omega (arith, days_in_month_bounds (is_leap_year (year_of n)) (month_of n), date.month_first, date.month_last)

-- the last day of a month is of that month, and no day of it is later
pub year_of-last_of_month : (n : ℤ) → year_of (last_of_month n) ≡ year_of n
unfolding last_of_month
year_of-last_of_month n = year_of-calendar_date _ _ _ (IsCalendarDate-month_last n)

pub month_of-last_of_month : (n : ℤ) → month_of (last_of_month n) ≡ month_of n
unfolding last_of_month
month_of-last_of_month n = month_of-calendar_date _ _ _ (IsCalendarDate-month_last n)

pub day_of_month_of-last_of_month : (n : ℤ) → day_of_month_of (last_of_month n) ≡ days_in_month (is_leap_year (year_of n)) (month_of n)
unfolding last_of_month
day_of_month_of-last_of_month n = day_of_month_of-calendar_date _ _ _ (IsCalendarDate-month_last n)

pub last_of_month-not_before : (n : ℤ) → n ≤ℤ last_of_month n
unfolding last_of_month
last_of_month-not_before n =
    let date = IsCalendarDate-of n in
    omega (arith, signed_arith, date.day_last, day_of_calendar_date-of n)

-- the last day of a month comes as many days later as the month has days left
pub last_of_month-left : (n : ℤ)
    → last_of_month n ≡ n +ℤ (pos (days_in_month (is_leap_year (year_of n)) (month_of n)) -ℤ pos (day_of_month_of n))
unfolding last_of_month
last_of_month-left n =
    let date = IsCalendarDate-of n in
    omega (arith, signed_arith, date.day_first, date.day_last, day_of_calendar_date-of n)

-- the first day of a month is day 1 of that month, and no day of it is earlier
pub year_of-first_of_month : (n : ℤ) → year_of (first_of_month n) ≡ year_of n
unfolding first_of_month
year_of-first_of_month n = year_of-calendar_date _ _ _ (IsCalendarDate-month_first n)

pub month_of-first_of_month : (n : ℤ) → month_of (first_of_month n) ≡ month_of n
unfolding first_of_month
month_of-first_of_month n = month_of-calendar_date _ _ _ (IsCalendarDate-month_first n)

pub day_of_month_of-first_of_month : (n : ℤ) → day_of_month_of (first_of_month n) ≡ 1
unfolding first_of_month
day_of_month_of-first_of_month n = day_of_month_of-calendar_date _ _ _ (IsCalendarDate-month_first n)

pub first_of_month-not_after : (n : ℤ) → first_of_month n ≤ℤ n
unfolding first_of_month
first_of_month-not_after n =
    let date = IsCalendarDate-of n in
    omega (arith, signed_arith, date.day_first, day_of_calendar_date-of n)

-- the rules that callers name
pub ruleset last_days = (
  year_of-last_of_month,
  month_of-last_of_month,
  day_of_month_of-last_of_month,
  last_of_month-not_before,
  last_of_month-left,
  year_of-first_of_month,
  month_of-first_of_month,
  day_of_month_of-first_of_month,
  first_of_month-not_after,
)

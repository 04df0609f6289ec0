-- The first and the last day of a month, months that are counted, and the same day a number of months later.
use Rattle.std.specs.Prelude.{ℕ, ◌+◌, ℤ, pos, ◌+ℤ◌, ◌-ℤ◌, ◌*ℤ◌, unsigned_abs, min}
use Rattle.std.specs.Int.{int_div_euclid, int_rem_euclid}
use Rattle.calendar_values.specs.Calendar.{is_leap_year, days_in_month, day_of_calendar_date, year_of, month_of, day_of_month_of}

-- the first day of the month of a day
unfoldable pub first_of_month : ℤ → ℤ
first_of_month n = day_of_calendar_date (year_of n) (month_of n) 1

-- the last day of the month of a day
unfoldable pub last_of_month : ℤ → ℤ
last_of_month n =
    let y = year_of n in let m = month_of n in day_of_calendar_date y m (days_in_month (is_leap_year y) m)

-- the number of the month of a day, counted from January of the year 0
abbrev pub month_index : ℤ → ℤ
month_index n = (year_of n *ℤ pos 12) +ℤ pos (month_of n) -ℤ pos 1

-- the year of a month of that number, and its number in the year
abbrev pub year_of_index : ℤ → ℤ
year_of_index index = int_div_euclid index (pos 12)

abbrev pub month_of_index : ℤ → ℕ
month_of_index index = unsigned_abs (int_rem_euclid index (pos 12)) + 1

-- the day of a month, or the month's last day if the month is shorter
abbrev pub day_or_last : ℤ → ℕ → ℕ → ℤ
day_or_last y m d = day_of_calendar_date y m (min d (days_in_month (is_leap_year y) m))

-- the same day of the month a number of months later, or the month's last day if the month is shorter
unfoldable pub months_later : ℤ → ℤ → ℤ
months_later n months =
    let index = month_index n +ℤ months in day_or_last (year_of_index index) (month_of_index index) (day_of_month_of n)

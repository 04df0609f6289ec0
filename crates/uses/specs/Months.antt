-- Days of months, as invoices name them.
use Rattle.std.specs.Prelude.{ℕ, ℤ, pos, ◌+ℤ◌, ◌==◌, if◌then◌else◌, min}
use Rattle.calendar_values.specs.Calendar.{is_leap_year, days_in_month, day_of_calendar_date}
use Rattle.calendar_values.specs.Months.{last_of_month}

-- the day of a month, or the last day of the month if it is shorter
abbrev pub day_or_last : ℤ → ℕ → ℕ → ℤ
day_or_last y m d = day_of_calendar_date y m (min d (days_in_month (is_leap_year y) m))

-- the same, where month 13 is January of the next year
abbrev pub same_day_or_last : ℤ → ℕ → ℕ → ℤ
same_day_or_last y m d = if m == 13 then day_or_last (y +ℤ pos 1) 1 d else day_or_last y m d

-- the first day of the month after that of a day
abbrev pub first_of_next_month : ℤ → ℤ
first_of_next_month n = last_of_month n +ℤ pos 1

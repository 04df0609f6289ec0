-- Days of the week, ISO 8601 weeks, and weeks counted by their Sundays or Mondays.
use Rattle.std.specs.Prelude.{ℕ, zero, suc, ◌+◌, ◌-◌, ◌*◌, ◌==◌, if◌then◌else◌, ℤ, pos, ◌+ℤ◌, ◌-ℤ◌, unsigned_abs}
use Rattle.std.specs.Int.{int_rem_euclid}
use Rattle.calendar_values.specs.Calendar.{days_in_year, year_start, year_of, ordinal_of}

-- the day of the week of a day, 0 for Monday to 6 for Sunday: day 0 is a Thursday
unfoldable pub weekday_of : ℤ → ℕ
weekday_of n = unsigned_abs (int_rem_euclid (n +ℤ pos 3) (pos 7))

-- the Thursday of the week of a day; a week begins on Monday
abbrev pub thursday_of : ℤ → ℤ
thursday_of n = n -ℤ pos (weekday_of n) +ℤ pos 3

-- the ISO year: an ISO week belongs to the year of its Thursday
abbrev pub iso_year_of : ℤ → ℤ
iso_year_of n = year_of (thursday_of n)

-- the number of the first k days from a day on that fall on a day of the week
unfoldable pub count_weekday : ℕ → ℤ → ℕ → ℕ
count_weekday weekday first zero = 0
count_weekday weekday first (suc k) =
    count_weekday weekday first k + (if weekday_of (first +ℤ pos k) == weekday then 1 else 0)

-- the number of days of the year of a day, up to that day, that fall on a day of the week
abbrev pub count_weekday_of_year : ℕ → ℤ → ℕ
count_weekday_of_year weekday n = count_weekday weekday (year_start (year_of n)) (ordinal_of n)

-- the ISO week: week 1 has the first Thursday of the ISO year
abbrev pub iso_week_of : ℤ → ℕ
iso_week_of n = count_weekday_of_year 3 (thursday_of n)

-- the number of ISO weeks of a year, which is the number of its Thursdays
abbrev pub weeks_in_year : ℤ → ℕ
weeks_in_year y = count_weekday 3 (year_start y) (days_in_year y)

-- the Monday of the week of a day
abbrev pub monday_of : ℤ → ℤ
monday_of n = n -ℤ pos (weekday_of n)

-- the day of an ISO week date: week 1 is that of 4 January
abbrev pub day_of_iso_week_date : ℤ → ℕ → ℕ → ℤ
day_of_iso_week_date y week weekday = monday_of (year_start y +ℤ pos 3) +ℤ pos ((week - 1) * 7) +ℤ pos weekday

-- the week by Sundays: the number of Sundays of the year on or before the day
abbrev pub sunday_week_of : ℤ → ℕ
sunday_week_of n = count_weekday_of_year 6 n

-- the week by Mondays: the number of Mondays of the year on or before the day
abbrev pub monday_week_of : ℤ → ℕ
monday_week_of n = count_weekday_of_year 0 n

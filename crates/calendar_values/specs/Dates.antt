-- The dates of a day: the calendar date, the ordinal date and the ISO week date, each as its parts together.
use Rattle.std.specs.Prelude.{◌≡◌, ℕ, ℤ}
use Rattle.std.specs.Int.{IsInRange}
use Rattle.calendar_values.specs.Calendar.{year_of, month_of, day_of_month_of, ordinal_of}
use Rattle.calendar_values.specs.Month.{month_number}
use Rattle.calendar_values.specs.Range.{IsYear}
use Rattle.calendar_values.specs.Weekday.{weekday_number}
use Rattle.calendar_values.specs.Weeks.{iso_year_of, iso_week_of, weekday_of}
use Rattle.calendar_values.specs.declared.month.Month.{Month}
use Rattle.calendar_values.specs.declared.weekday.Weekday.{Weekday}

-- the year, the month and the day of the month of a day, each in its range
pub record IsCalendarDateOf (n : ℤ) (date : ℤ × Month × ℕ) : Type 0 where
  pub year : date.0 ≡ year_of n
  pub month : month_number date.1 ≡ month_of n
  pub day : date.2 ≡ day_of_month_of n
  pub year_in_range : IsYear date.0
  pub day_in_range : IsInRange 1 31 date.2

-- the year and the day of the year of a day, each in its range
pub record IsOrdinalDateOf (n : ℤ) (date : ℤ × ℕ) : Type 0 where
  pub year : date.0 ≡ year_of n
  pub ordinal : date.1 ≡ ordinal_of n
  pub year_in_range : IsYear date.0
  pub ordinal_in_range : IsInRange 1 366 date.1

-- the ISO year, the ISO week and the day of the week of a day, each in its range
pub record IsIsoWeekDateOf (n : ℤ) (date : ℤ × ℕ × Weekday) : Type 0 where
  pub year : date.0 ≡ iso_year_of n
  pub week : date.1 ≡ iso_week_of n
  pub weekday : weekday_number date.2 ≡ weekday_of n
  pub year_in_range : IsYear date.0
  pub week_in_range : IsInRange 1 53 date.1

-- the day has this year, month and day of the month
pub record ShowsDate (y : ℤ) (m d : ℕ) (n : ℤ) : Type 0 where
  pub year : year_of n ≡ y
  pub month : month_of n ≡ m
  pub day : day_of_month_of n ≡ d

-- the day has this ISO year, ISO week and day of the week
pub record ShowsIsoWeekDate (y : ℤ) (w d : ℕ) (n : ℤ) : Type 0 where
  pub year : iso_year_of n ≡ y
  pub week : iso_week_of n ≡ w
  pub weekday : weekday_of n ≡ d

-- the day has this year and day of the year
pub record ShowsOrdinalDate (y : ℤ) (o : ℕ) (n : ℤ) : Type 0 where
  pub year : year_of n ≡ y
  pub ordinal : ordinal_of n ≡ o

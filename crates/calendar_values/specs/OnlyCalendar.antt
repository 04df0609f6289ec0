-- The Gregorian calendar by its steps: day 0 is 1 January 1970, and each day has the date after the date of the day before.
-- No other calendar has these steps.
use Rattle.std.specs.Prelude.{◌≡◌, ◌⊎◌, ℕ, ◌+◌, ◌<◌, ℤ, pos, ◌+ℤ◌}
use Rattle.calendar_values.specs.Calendar.{is_leap_year, days_in_month, IsCalendarDate, year_of, month_of, day_of_month_of}
use Rattle.calendar_values.specs.Dates.{ShowsDate}

-- the second date follows the first: the next day of the month, or the first of the next month, or the first of the next year
abbrev pub IsNextDate : (y : ℤ) (m d : ℕ) (next : ℤ) (next_m next_d : ℕ) → Type 0
IsNextDate y m d next next_m next_d =
    ((d < days_in_month (is_leap_year y) m) × (next ≡ y) × (next_m ≡ m) × (next_d ≡ d + 1))
    ⊎ ((d ≡ days_in_month (is_leap_year y) m) × (m < 12) × (next ≡ y) × (next_m ≡ m + 1) × (next_d ≡ 1))
    ⊎ ((d ≡ days_in_month (is_leap_year y) m) × (m ≡ 12) × (next ≡ y +ℤ pos 1) × (next_m ≡ 1) × (next_d ≡ 1))

-- three functions that give each day a date
pub record IsCalendar (y : ℤ → ℤ) (m d : ℤ → ℕ) : Type 0 where
  pub epoch_year : y (pos 0) ≡ pos 1970
  pub epoch_month : m (pos 0) ≡ 1
  pub epoch_day : d (pos 0) ≡ 1
  pub dates : (n : ℤ) → IsCalendarDate (y n) (m n) (d n)
  pub follow : (n : ℤ) → IsNextDate (y n) (m n) (d n) (y (n +ℤ pos 1)) (m (n +ℤ pos 1)) (d (n +ℤ pos 1))

-- the definitions are a calendar, and any other calendar has the same dates
pub record IsOnlyCalendar : Type 0 where
  pub is : IsCalendar year_of month_of day_of_month_of
  pub only : (y : ℤ → ℤ) (m d : ℤ → ℕ) → IsCalendar y m d → (n : ℤ) → ShowsDate (y n) (m n) (d n) n

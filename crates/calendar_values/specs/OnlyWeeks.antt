-- Weekdays and ISO weeks by their steps: those of each day follow from those of the day before. Nothing else has these steps.
use Rattle.std.specs.Prelude.{◌≡◌, ◌≢◌, ◌⊎◌, ℕ, ◌+◌, ◌%◌, ℤ, pos, ◌+ℤ◌}
use Rattle.calendar_values.specs.Dates.{ShowsDate}
use Rattle.calendar_values.specs.Weeks.{weekday_of, iso_year_of, iso_week_of}

-- a weekday for each day, 0 for Monday: 1 January 1970 is a Thursday; each day has the weekday after that of the day before
pub record IsWeekday (w : ℤ → ℕ) : Type 0 where
  pub epoch : w (pos 0) ≡ 3
  pub follow : (n : ℤ) → w (n +ℤ pos 1) ≡ (w n + 1) % 7

-- the definition is a weekday, and any other is the same
pub record IsOnlyWeekday : Type 0 where
  pub is : IsWeekday weekday_of
  pub only : (w : ℤ → ℕ) → IsWeekday w → (n : ℤ) → w n ≡ weekday_of n

-- a year and a week number for each day: a Monday begins the next week of the year, or week 1 of the next year;
-- each other day is in the week of the day before; 4 January is in week 1 of its year
pub record IsIsoWeek (y : ℤ → ℤ) (k : ℤ → ℕ) : Type 0 where
  pub monday : (n : ℤ) → weekday_of (n +ℤ pos 1) ≡ 0
      → ((y (n +ℤ pos 1) ≡ y n) × (k (n +ℤ pos 1) ≡ k n + 1)) ⊎ ((y (n +ℤ pos 1) ≡ y n +ℤ pos 1) × (k (n +ℤ pos 1) ≡ 1))
  pub other : (n : ℤ) → weekday_of (n +ℤ pos 1) ≢ 0 → (y (n +ℤ pos 1) ≡ y n) × (k (n +ℤ pos 1) ≡ k n)
  pub january_4 : (a n : ℤ) → ShowsDate a 1 4 n → (y n ≡ a) × (k n ≡ 1)

-- the definitions are an ISO week, and any other is the same
pub record IsOnlyIsoWeek : Type 0 where
  pub is : IsIsoWeek iso_year_of iso_week_of
  pub only : (y : ℤ → ℤ) (k : ℤ → ℕ) → IsIsoWeek y k → (n : ℤ) → (y n ≡ iso_year_of n) × (k n ≡ iso_week_of n)

-- A date and a time of day packed into one number, so that wall clocks compare as their packed numbers do.
use Rattle.std.specs.Prelude.{ℕ, ◌+◌, ◌*◌, ◌^◌, ℤ, pos, ◌+ℤ◌, ◌*ℤ◌}
use Rattle.calendar_values.specs.Calendar.{year_of, ordinal_of, day_of_ordinal_date, IsOrdinalDate}
use Rattle.calendar_values.specs.Clock.{IsClock}
use Rattle.calendar_values.specs.WallClock.{wall_clock, wall_day, wall_time}

-- a day of the year, and a nanosecond of the day
pub record IsParts (y : ℤ) (ordinal c : ℕ) : Type 0 where
  pub date : IsOrdinalDate y ordinal
  pub clock : IsClock c

-- the wall clock of these parts
abbrev pub wall_clock_of_parts : ℤ → ℕ → ℕ → ℤ
wall_clock_of_parts y ordinal c = wall_clock (day_of_ordinal_date y ordinal) c

-- the year from bit 74 up, the day of the year from bit 64 up, and the nanosecond of the day below
abbrev pub packed_parts : ℤ → ℕ → ℕ → ℤ
packed_parts y ordinal c = y *ℤ pos (2 ^ 74) +ℤ pos (ordinal * 2 ^ 64 + c)

-- the packed number of a wall clock
unfoldable pub packed_wall_clock : ℤ → ℤ
packed_wall_clock w = packed_parts (year_of (wall_day w)) (ordinal_of (wall_day w)) (wall_time w)

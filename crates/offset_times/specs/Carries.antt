-- A clock moved from one offset to another: seconds carry into the minutes, minutes into the hours, and hours into the days.
use Rattle.std.specs.Prelude.{ℕ, ℤ, pos, neg_ℤ, ◌+ℤ◌, ◌-ℤ◌, ◌≤ℤ◌, unsigned_abs}
use Rattle.std.specs.Int.{int_div_euclid, int_rem_euclid}
use Rattle.calendar_values.specs.Clock.{clock_of_parts, hour_of, minute_of, second_of, nanosecond_of}
use Rattle.calendar_values.specs.Offsets.{offset_hours_of, offset_minutes_of, offset_seconds_of}

-- the second of a clock, moved from one offset to another
abbrev pub moved_second : ℕ → ℤ → ℤ → ℤ
moved_second c from to = pos (second_of c) +ℤ offset_seconds_of to -ℤ offset_seconds_of from

-- the minutes that it carries, rounded down
unfoldable pub minutes_carried : ℕ → ℤ → ℤ → ℤ
minutes_carried c from to = int_div_euclid (moved_second c from to) (pos 60)

-- the minute of the clock, moved, with the minutes that were carried
abbrev pub moved_minute : ℕ → ℤ → ℤ → ℤ
moved_minute c from to =
    pos (minute_of c) +ℤ offset_minutes_of to -ℤ offset_minutes_of from +ℤ minutes_carried c from to

-- the hours that it carries, rounded down
unfoldable pub hours_carried : ℕ → ℤ → ℤ → ℤ
hours_carried c from to = int_div_euclid (moved_minute c from to) (pos 60)

-- the hour of the clock, moved, with the hours that were carried
abbrev pub moved_hour : ℕ → ℤ → ℤ → ℤ
moved_hour c from to =
    pos (hour_of c) +ℤ offset_hours_of to -ℤ offset_hours_of from +ℤ hours_carried c from to

-- the days that it carries, rounded down
unfoldable pub days_carried : ℕ → ℤ → ℤ → ℤ
days_carried c from to = int_div_euclid (moved_hour c from to) (pos 24)

-- the second, the minute and the hour that the carries leave
unfoldable pub carried_second : ℕ → ℤ → ℤ → ℕ
carried_second c from to = unsigned_abs (int_rem_euclid (moved_second c from to) (pos 60))

unfoldable pub carried_minute : ℕ → ℤ → ℤ → ℕ
carried_minute c from to = unsigned_abs (int_rem_euclid (moved_minute c from to) (pos 60))

unfoldable pub carried_hour : ℕ → ℤ → ℤ → ℕ
carried_hour c from to = unsigned_abs (int_rem_euclid (moved_hour c from to) (pos 24))

-- the clock of these: the nanosecond of the second stays
unfoldable pub carried_clock : ℕ → ℤ → ℤ → ℕ
carried_clock c from to =
    clock_of_parts (carried_hour c from to) (carried_minute c from to) (carried_second c from to) (nanosecond_of c)

-- the number is from -n to n
abbrev pub IsWithin : ℕ → ℤ → Type 0
IsWithin n z = (neg_ℤ (pos n) ≤ℤ z) × (z ≤ℤ pos n)

-- the clock carries at most a minutes, b hours and e days, in either direction
pub record CarriesWithin (a b e c : ℕ) (from to : ℤ) : Type 0 where
  pub minutes : IsWithin a (minutes_carried c from to)
  pub hours : IsWithin b (hours_carried c from to)
  pub days : IsWithin e (days_carried c from to)

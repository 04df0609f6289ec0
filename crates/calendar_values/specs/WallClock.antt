-- A wall clock: the day number times the nanoseconds of a day plus the nanosecond of the day.
-- An instant is counted from 1970-01-01 0:00 UTC.
use Rattle.std.specs.Prelude.{ℕ, ℤ, pos, ◌+ℤ◌, ◌-ℤ◌, ◌*ℤ◌, ◌≤ℤ◌, unsigned_abs, Option, SomeIff}
use Rattle.std.specs.Int.{int_div_euclid, int_rem_euclid}
use Rattle.calendar_values.specs.Clock.{nanos_per_day, nanos_per_second}
use Rattle.calendar_values.specs.Range.{first_day, last_day}

-- the wall clock of a day and a clock
abbrev pub wall_clock : ℤ → ℕ → ℤ
wall_clock n c = (n *ℤ pos nanos_per_day) +ℤ pos c

-- the day of a wall clock
unfoldable pub wall_day : ℤ → ℤ
wall_day w = int_div_euclid w (pos nanos_per_day)

-- the clock of a wall clock
unfoldable pub wall_time : ℤ → ℕ
wall_time w = unsigned_abs (int_rem_euclid w (pos nanos_per_day))

-- the first wall clock of the range and the last
abbrev pub first_wall_clock : ℤ
first_wall_clock = first_day *ℤ pos nanos_per_day

abbrev pub last_wall_clock : ℤ
last_wall_clock = (last_day +ℤ pos 1) *ℤ pos nanos_per_day -ℤ pos 1

-- a wall clock of the range
abbrev pub IsWallClock : ℤ → Type 0
IsWallClock w = (first_wall_clock ≤ℤ w) × (w ≤ℤ last_wall_clock)

-- an instant of the range: clocks in UTC show a wall clock of the range
abbrev pub IsInstant : ℤ → Type 0
IsInstant i = IsWallClock i

-- the result is Some w exactly if w is a wall clock or an instant of the range, and else None
abbrev pub SomeInRange : Option ℤ → ℤ → Type 0
SomeInRange result w = SomeIff result (IsWallClock w) w

-- Unix time: the whole seconds of an instant, rounded down
abbrev pub unix_seconds_of : ℤ → ℤ
unix_seconds_of i = int_div_euclid i (pos nanos_per_second)

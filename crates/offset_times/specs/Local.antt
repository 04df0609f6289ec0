-- A wall clock at an offset from UTC, and its instant.
use Rattle.std.specs.Prelude.{◌≡◌, ℕ, ℤ, pos, ◌+ℤ◌, ◌-ℤ◌, ◌*ℤ◌, Option, SomeIff}
use Rattle.calendar_values.specs.Clock.{nanos_per_second}
use Rattle.calendar_values.specs.Offsets.{IsOffset}
use Rattle.calendar_values.specs.WallClock.{IsWallClock}
use Rattle.plain_times.specs.Truncations.{wall_multiple_below}

-- the wall clock, in nanoseconds, and the offset of the clocks that show it, in seconds
pub record Local : Type 0 where
  pub wall : ℤ
  pub offset : ℤ

-- the wall clock and the offset are in range, but the instant may be out of the range of wall clocks
abbrev pub IsLocal : Local → Type 0
IsLocal at = IsWallClock at.wall × IsOffset at.offset

-- the nanoseconds of an offset
abbrev pub offset_nanos : ℤ → ℤ
offset_nanos o = o *ℤ pos nanos_per_second

-- the instant, as the wall clock that clocks in UTC show then
unfoldable pub instant_of : Local → ℤ
instant_of at = at.wall -ℤ offset_nanos at.offset

-- the wall clock that clocks at an offset show at an instant
abbrev pub shown_at : ℤ → ℤ → ℤ
shown_at instant o = instant +ℤ offset_nanos o

-- an instant at an offset
abbrev pub local_at : ℤ → ℤ → Local
local_at instant o = record { wall = shown_at instant o; offset = o }

-- the result is Some of the instant at the offset exactly if its wall clock there is in range, and None otherwise
abbrev pub ShownAt : Option Local → ℤ → ℤ → Type 0
ShownAt result instant o = SomeIff result (IsWallClock (shown_at instant o)) (local_at instant o)

-- a wall clock at an offset
abbrev pub wall_at : ℤ → ℤ → Local
wall_at wall o = record { wall = wall; offset = o }

-- an instant as a date-time in UTC: the wall clock is the instant
abbrev pub local_in_utc : ℤ → Local
local_in_utc instant = wall_at instant (pos 0)

-- another wall clock at the same offset
abbrev pub at_offset_of : Local → ℤ → Local
at_offset_of at wall = wall_at wall at.offset

-- the wall clock truncated to a unit, at the same offset
abbrev pub local_multiple_below : ℕ → Local → Local
local_multiple_below unit at = at_offset_of at (wall_multiple_below unit at.wall)

-- the new value has the offset of the old, and the instants differ as the wall clocks do
abbrev pub SameOffset : Local → Local → Type 0
SameOffset old new = (new.offset ≡ old.offset) × (instant_of new ≡ instant_of old +ℤ (new.wall -ℤ old.wall))

-- the sum has the offset of the value, and its wall clock and its instant are later by the duration
abbrev pub IsLater : Local → ℤ → Local → Type 0
IsLater at d sum = (sum ≡ at_offset_of at (at.wall +ℤ d)) × (instant_of sum ≡ instant_of at +ℤ d)

-- the difference has the offset of the value, and its wall clock and its instant are earlier by the duration
abbrev pub IsEarlier : Local → ℤ → Local → Type 0
IsEarlier at d difference =
    (difference ≡ at_offset_of at (at.wall -ℤ d)) × (instant_of difference ≡ instant_of at -ℤ d)

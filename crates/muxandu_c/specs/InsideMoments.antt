-- Moments so far from the ends of the range that clocks at each offset can show their instants.
use Rattle.std.specs.Prelude.{ℕ, ◌-◌, ◌%◌, ◌≤◌, ℤ, pos, neg_ℤ, ◌+ℤ◌, ◌-ℤ◌, ◌*ℤ◌, ◌≤ℤ◌}
use Rattle.std.specs.Int.{int_rem_euclid}
use Rattle.calendar_values.specs.Offsets.{IsOffset, greatest_offset}
use Rattle.calendar_values.specs.Range.{first_day, last_day}
use Rattle.stamp_times.specs.Instants.{instant_of_parts}
use Rattle.muxandu_c.specs.declared.moments.MuxanduMoment.{MuxanduMoment}

-- the first second of such a moment and the last
abbrev pub first_inside : ℤ
first_inside = (first_day *ℤ pos 86_400) +ℤ greatest_offset

abbrev pub last_inside : ℤ
last_inside = ((last_day *ℤ pos 86_400) +ℤ pos 86_399) -ℤ greatest_offset

-- a moment of parts in their ranges, and between these seconds
pub record IsInside (v : MuxanduMoment) : Type 0 where
  pub first : first_inside ≤ℤ v.seconds
  pub last : v.seconds ≤ℤ last_inside
  pub nanoseconds : v.nanoseconds ≤ 999_999_999
  pub offset : IsOffset v.offset_seconds

-- its instant
abbrev pub instant_of_moment : MuxanduMoment → ℤ
instant_of_moment v = instant_of_parts v.seconds v.nanoseconds

-- a duration that is no longer than the range, with less than a second of nanoseconds
pub record IsShort (seconds nanoseconds : ℤ) : Type 0 where
  pub least : neg_ℤ (pos 70_000_000_000_000) ≤ℤ seconds
  pub most : seconds ≤ℤ pos 70_000_000_000_000
  pub least_part : neg_ℤ (pos 999_999_999) ≤ℤ nanoseconds
  pub most_part : nanoseconds ≤ℤ pos 999_999_999

-- the moment rounded down to a number of seconds, by its own clocks
abbrev pub rounded_down : ℤ → MuxanduMoment → MuxanduMoment
rounded_down size v = record {
  seconds = v.seconds -ℤ int_rem_euclid (v.seconds +ℤ v.offset_seconds) size;
  nanoseconds = 0;
  offset_seconds = v.offset_seconds;
}

-- the moment with its nanoseconds rounded down to a multiple of a number
abbrev pub with_nanoseconds_below : ℕ → MuxanduMoment → MuxanduMoment
with_nanoseconds_below size v = record {
  seconds = v.seconds;
  nanoseconds = v.nanoseconds - v.nanoseconds % size;
  offset_seconds = v.offset_seconds;
}

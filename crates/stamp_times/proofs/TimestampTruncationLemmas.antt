-- A timestamp with its time of day truncated is the greatest multiple of the unit that is not above it.
use Rattle.std.proofs.Common.{◌≡◌, refl, ℤ}
use Rattle.calendar_values.specs.WallClock.{wall_clock, wall_day}
use Rattle.plain_times.specs.Replacements.{with_time}
use Rattle.plain_times.specs.TruncationLemmas.{multiple_below-day, with_time-midnight, with_time-hour, with_time-minute, with_time-second}
use Rattle.plain_times.specs.TruncationLemmas.{with_time-millisecond, with_time-microsecond, wall_multiple_below-not_above, wall_multiple_below-within}

pub with_time-first : (i : ℤ) → with_time i 0 ≡ wall_clock (wall_day i) 0
unfolding with_time
with_time-first i = refl

-- for the truncations of a timestamp
pub ruleset truncations = (
  with_time-first,
  with_time-midnight,
  multiple_below-day,
  with_time-hour,
  with_time-minute,
  with_time-second,
  with_time-millisecond,
  with_time-microsecond,
  wall_multiple_below-not_above,
  wall_multiple_below-within,
)

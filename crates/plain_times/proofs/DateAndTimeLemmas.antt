-- What the date and the time of a plain date-time say of its wall clock.
use Rattle.std.proofs.Common.{◌≡◌, ℕ, refl, ℤ, ◌≤ℤ◌}
use Rattle.calendar_values.specs.Clock.{IsClock}
use Rattle.calendar_values.specs.Range.{IsDay}
use Rattle.calendar_values.specs.WallClock.{wall_clock, wall_day, wall_time, first_wall_clock, last_wall_clock}
use Rattle.calendar_values.specs.WallClockLemmas.{wall_day-wall_clock, wall_time-wall_clock, IsWallClock-wall_clock}
use Rattle.plain_times.specs.Replacements.{with_time}
use Rattle.plain_times.specs.TruncationLemmas.{multiple_below-day, with_time-midnight, with_time-hour, with_time-minute, with_time-second}
use Rattle.plain_times.specs.TruncationLemmas.{with_time-millisecond, with_time-microsecond, wall_multiple_below-not_above, wall_multiple_below-within}

pub wall_day-is : (w n : ℤ) (c : ℕ) → IsClock c → wall_clock n c ≡ w → wall_day w ≡ n
wall_day-is w n c clock e = rw (← e) (wall_day-wall_clock n c clock)

pub wall_time-is : (w n : ℤ) (c : ℕ) → IsClock c → wall_clock n c ≡ w → wall_time w ≡ c
wall_time-is w n c clock e = rw (← e) (wall_time-wall_clock n c clock)

pub first_wall_clock-is : (w n : ℤ) (c : ℕ) → IsClock c → IsDay n → wall_clock n c ≡ w → first_wall_clock ≤ℤ w
first_wall_clock-is w n c clock day e = rw (← e) ((IsWallClock-wall_clock n c clock day).0)

pub last_wall_clock-is : (w n : ℤ) (c : ℕ) → IsClock c → IsDay n → wall_clock n c ≡ w → w ≤ℤ last_wall_clock
last_wall_clock-is w n c clock day e = rw (← e) ((IsWallClock-wall_clock n c clock day).1)

pub with_time-first : (w : ℤ) → with_time w 0 ≡ wall_clock (wall_day w) 0
unfolding with_time
with_time-first w = refl

pub ruleset wall_clock_fields = (wall_day-is, wall_time-is, first_wall_clock-is, last_wall_clock-is)

pub ruleset truncations = (
  with_time-first,
  with_time-midnight,
  multiple_below-day,
  with_time-hour,
  with_time-minute,
  with_time-second,
  with_time-millisecond,
  with_time-microsecond,
  wall_multiple_below-not_above,
  wall_multiple_below-within,
)

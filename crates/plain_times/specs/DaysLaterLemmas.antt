-- Rule sets for callers that ask for the day or the time a day later, or within one day.
use Rattle.std.proofs.Common.{◌≡◌, arith, ℤ, pos, ◌+ℤ◌, ◌<ℤ◌}
use Rattle.std.proofs.lemmas.Int.{ints}
use Rattle.calendar_values.specs.Clock.{nanos_per_day}
use Rattle.calendar_values.specs.WallClock.{wall_clock, wall_day, wall_time}
use Rattle.calendar_values.specs.WallClockLemmas.{wall_clock-parts, IsClock-wall_time, wall_day-wall_clock, wall_time-wall_clock}

-- a day later clocks show the same time on the next date
pub wall_time-day_later : (v w : ℤ) → v ≡ w +ℤ pos nanos_per_day → wall_time v ≡ wall_time w
wall_time-day_later v w e =
    let here = wall_clock-parts w in
    let there : v ≡ wall_clock (wall_day w +ℤ pos 1) (wall_time w) = omega (arith, ints) in
    rw there (wall_time-wall_clock (wall_day w +ℤ pos 1) (wall_time w) (IsClock-wall_time w))

pub wall_day-day_later : (v w : ℤ) → v ≡ w +ℤ pos nanos_per_day → wall_day v ≡ wall_day w +ℤ pos 1
wall_day-day_later v w e =
    let here = wall_clock-parts w in
    let there : v ≡ wall_clock (wall_day w +ℤ pos 1) (wall_time w) = omega (arith, ints) in
    rw there (wall_day-wall_clock (wall_day w +ℤ pos 1) (wall_time w) (IsClock-wall_time w))

-- two wall clocks of one day are less than a day apart
pub same_day-within : (v w : ℤ) → wall_day v ≡ wall_day w → v <ℤ (w +ℤ pos nanos_per_day)
same_day-within v w same =
    let there = wall_clock-parts v in
    let here = wall_clock-parts w in
    let clock = IsClock-wall_time v in
    omega (arith, ints)

pub ruleset within_a_day = same_day-within

-- the rule set for callers that ask for the day or the time a day later, or for the distance of times of one day
pub ruleset days_later = (wall_time-day_later, wall_day-day_later, same_day-within)

-- Wall clocks a number of days or months later.
use Rattle.std.proofs.Common.{◌≡◌, ◌∙◌, ℤ, pos, ◌+ℤ◌, ◌*ℤ◌, Option, Some, None, arith, ap, subst}
use Rattle.std.proofs.lemmas.Int.{ints}
use Rattle.calendar_values.specs.Clock.{nanos_per_day}
use Rattle.calendar_values.specs.Range.{IsDay}
use Rattle.calendar_values.specs.WallClock.{wall_clock, wall_day, wall_time, IsWallClock}
use Rattle.calendar_values.specs.WallClockLemmas.{wall_clock-parts, wall_day-wall_clock, IsDay-wall_day, IsWallClock-wall_clock, IsClock-wall_time}
use Rattle.offset_times.specs.Local.{Local, shown_at}
use Rattle.zones.specs.Zones.{ZoneParts}
use Rattle.zoned_times.specs.declared.local_times.LocalTimes.{LocalTimes}
use Rattle.zoned_times.specs.Zoned.{HasOffset, ShownIn, AreTimesOf, AreIfAny}

-- an instant that the zone shows, by its wall clock
pub moved-some : (z : ZoneParts) (i : ℤ) (at : Local) (move : ℤ → ℤ) (result : Option LocalTimes) → ShownIn z i (Some at)
    → AreIfAny z at.wall (move at.wall) result → (o : ℤ) × HasOffset z i o × AreIfAny z (shown_at i o) (move (shown_at i o)) result
moved-some z i at move result shown are =
    (shown.0, shown.1, subst (λ (w : ℤ). AreIfAny z w (move w) result) (ap (λ (v : Local). v.wall) shown.2.1) are)

pub moved-none : (z : ZoneParts) (i : ℤ) (move : ℤ → ℤ) → ShownIn z i None
    → (o : ℤ) × HasOffset z i o × AreIfAny z (shown_at i o) (move (shown_at i o)) None
moved-none z i move shown = (shown.0, shown.1, λ now later. absurd (shown.2 now))

-- the date-times at the same time of day on another date
pub dated-some : (z : ZoneParts) (w n d v : ℤ) (times : LocalTimes) → IsWallClock w → IsDay n × (d ≡ n) → v ≡ wall_clock d (wall_time w)
    → AreTimesOf z v times → AreIfAny z w (wall_clock n (wall_time w)) (Some times)
dated-some z w n d v times range date is are =
    let e : v ≡ wall_clock n (wall_time w) = is ∙ ap (λ (x : ℤ). wall_clock x (wall_time w)) date.1 in
    (range, IsWallClock-wall_clock n (wall_time w) (IsClock-wall_time w) date.0, subst (λ (x : ℤ). AreTimesOf z x times) e are)

pub dated-none : (z : ZoneParts) (w n : ℤ) → (IsDay n → ⊥) → AreIfAny z w (wall_clock n (wall_time w)) None
dated-none z w n none =
    λ now later. none (subst IsDay (wall_day-wall_clock n (wall_time w) (IsClock-wall_time w)) (IsDay-wall_day (wall_clock n (wall_time w)) later))

-- a number of days later
pub wall_clock-days_later : (w days : ℤ) → wall_clock (wall_day w +ℤ days) (wall_time w) ≡ w +ℤ days *ℤ pos nanos_per_day
wall_clock-days_later w days = let parts = wall_clock-parts w in omega (arith, ints)

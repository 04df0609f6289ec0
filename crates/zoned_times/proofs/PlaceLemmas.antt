-- Instants and their seconds.
use Rattle.std.proofs.Common.{◌≡◌, ℕ, ◌+◌, ◌<◌, ℤ, pos, negsuc, ◌+ℤ◌, ◌-ℤ◌, ◌≤ℤ◌, ◌<ℤ◌, Option, Some, None, arith, refl, sym, subst}
use Rattle.std.proofs.lemmas.Int.{ints}
use Rattle.calendar_values.specs.Clock.{nanosecond_of}
use Rattle.calendar_values.specs.WallClock.{wall_clock, wall_time, unix_seconds_of, IsInstant}
use Rattle.calendar_values.specs.WallClockLemmas.{wall_clock-parts}
use Rattle.offset_times.specs.Local.{Local, instant_of, offset_nanos, IsLocal}
use Rattle.utc_times.specs.UnixTime.{instant_of_second}
use Rattle.zones.specs.Clocks.{IsPlace}
use Rattle.zones.specs.Seconds.{IsSecond}
use Rattle.zones.specs.Zones.{ZoneParts, HasTransition, zone_second, zone_offset, IsZoneOffset, IsNextTransition, IsLastTransition, IsDayStart}
use Rattle.zones.specs.declared.transition.Transition.{Transition}
use Rattle.zoned_times.specs.Zoned.{HasOffset, IsFirstOf, IsNextAfter, IsLastBefore}

-- an instant lies in its second
pub second-begun : (i : ℤ) → instant_of_second (unix_seconds_of i) ≤ℤ i
second-begun (pos a) = omega (arith, ints)
second-begun (negsuc a) = omega (arith, ints)

pub second-not_over : (i : ℤ) → i <ℤ instant_of_second (unix_seconds_of i +ℤ pos 1)
second-not_over (pos a) = omega (arith, ints)
second-not_over (negsuc a) = omega (arith, ints)

-- a number of seconds earlier an instant has an earlier second by that number
pub second-earlier : (i o : ℤ) → unix_seconds_of (i -ℤ offset_nanos o) ≡ unix_seconds_of i -ℤ o
second-earlier i o =
    let begun = second-begun i in
    let over = second-not_over i in
    let first = second-begun (i -ℤ offset_nanos o) in
    let last = second-not_over (i -ℤ offset_nanos o) in
    omega (arith, ints)

-- as many transitions lie at or before an instant as at or before its second
pub place-of_second : (Has : ℕ → Type 0) (S : ℕ → ℤ) (i : ℤ) (k : ℕ) → IsPlace Has S (unix_seconds_of i) k
    → IsPlace Has (λ j. instant_of_second (S j)) i k
place-of_second Has S i k place =
    let begun = second-begun i in
    let over = second-not_over i in record {
      reached = λ j e. (let r = place.reached j e in let under = r.1 in (r.0, omega (arith, ints)));
      ahead = λ has. (let above = place.ahead has in omega (arith, ints));
    }

pub place-of_instant : (Has : ℕ → Type 0) (S : ℕ → ℤ) (i : ℤ) (k : ℕ) → IsPlace Has (λ j. instant_of_second (S j)) i k
    → IsPlace Has S (unix_seconds_of i) k
place-of_instant Has S i k place =
    let begun = second-begun i in
    let over = second-not_over i in record {
      reached = λ j e. (let r = place.reached j e in let under = r.1 in (r.0, omega (arith, ints)));
      ahead = λ has. (let above = place.ahead has in omega (arith, ints));
    }

-- the offset at an instant is that at its second
pub HasOffset-second : (z : ZoneParts) (i o : ℤ) → IsZoneOffset z (unix_seconds_of i) o → HasOffset z i o
HasOffset-second z i o h = (h.0, place-of_second (HasTransition z) (zone_second z) i h.0 h.1, h.2)

pub IsZoneOffset-instant : (z : ZoneParts) (i o : ℤ) → HasOffset z i o → IsZoneOffset z (unix_seconds_of i) o
IsZoneOffset-instant z i o h = (h.0, place-of_instant (HasTransition z) (zone_second z) i h.0 h.1, h.2)

-- the second of an instant of the range
pub IsSecond-instant : (i : ℤ) → IsInstant i → IsSecond (unix_seconds_of i)
IsSecond-instant i range =
    let begun = second-begun i in
    let over = second-not_over i in
    (omega (arith, ints), omega (arith, ints))

-- the second of a date-time, whose instant may be out of the range
pub IsSecond-local : (at : Local) → IsLocal at → IsSecond (unix_seconds_of (instant_of at))
unfolding instant_of
IsSecond-local at range =
    let begun = second-begun at.wall in
    let over = second-not_over at.wall in
    let earlier = second-earlier at.wall at.offset in
    (omega (arith, ints), omega (arith, ints))

pub IsSecond-next : (at : Local) → IsLocal at → IsSecond (unix_seconds_of (instant_of at) +ℤ pos 1)
unfolding instant_of
IsSecond-next at range =
    let begun = second-begun at.wall in
    let over = second-not_over at.wall in
    let earlier = second-earlier at.wall at.offset in
    (omega (arith, ints), omega (arith, ints))

-- the second of a whole second
pub second-whole : (t : ℤ) → unix_seconds_of (instant_of_second t) ≡ t
second-whole t =
    let begun = second-begun (instant_of_second t) in
    let over = second-not_over (instant_of_second t) in
    omega (arith, ints)

-- the first second of a day in a zone is its first instant
pub IsFirstOf-second : (z : ZoneParts) (day t : ℤ) → IsDayStart z day t → IsFirstOf z (wall_clock day 0) (instant_of_second t)
IsFirstOf-second z day t h =
    let k = h.reached.0 in
    let reached = h.reached.2 in
    let place = subst (λ (s : ℤ). IsPlace (HasTransition z) (zone_second z) s k) (sym (second-whole t)) h.reached.1 in
    record {
      offset = zone_offset z k;
      has = (k, place-of_second (HasTransition z) (zone_second z) (instant_of_second t) k place, refl);
      reached = omega (arith, ints);
      before = λ j o less has. (let begun = second-begun j in
          let over = second-not_over j in
          let early = h.before (unix_seconds_of j) has.0 (omega (arith, ints)) (place-of_instant (HasTransition z) (zone_second z) j has.0 has.1) in
          let offset = has.2 in
          omega (arith, ints));
    }

-- transitions next to an instant are those next to its second
pub IsNextAfter-second : (z : ZoneParts) (i : ℤ) (found : Option Transition) → IsNextTransition z (unix_seconds_of i) found → IsNextAfter z i found
IsNextAfter-second z i None h = (h.0, place-of_second (HasTransition z) (zone_second z) i h.0 h.1, h.2)
IsNextAfter-second z i (Some row) h = (h.0, place-of_second (HasTransition z) (zone_second z) i h.0 h.1, h.2, h.3)

pub IsLastBefore-second : (z : ZoneParts) (i : ℤ) (found : Option Transition) → IsLastTransition z (unix_seconds_of (i -ℤ pos 1)) found
    → IsLastBefore z i found
IsLastBefore-second z i None h = place-of_second (HasTransition z) (zone_second z) (i -ℤ pos 1) 0 h
IsLastBefore-second z i (Some row) h = (h.0, place-of_second (HasTransition z) (zone_second z) (i -ℤ pos 1) (h.0 + 1) h.1, h.2)

-- the second of the nanosecond before a date-time, of a whole second and of another one
pub second-before_whole : (at : Local) → nanosecond_of (wall_time at.wall) ≡ 0
    → unix_seconds_of (instant_of at) ≡ unix_seconds_of (instant_of at -ℤ pos 1) +ℤ pos 1
unfolding instant_of
second-before_whole at whole =
    let parts = wall_clock-parts at.wall in
    let begun = second-begun (at.wall -ℤ offset_nanos at.offset) in
    let over = second-not_over (at.wall -ℤ offset_nanos at.offset) in
    let begun2 = second-begun (at.wall -ℤ offset_nanos at.offset -ℤ pos 1) in
    let over2 = second-not_over (at.wall -ℤ offset_nanos at.offset -ℤ pos 1) in
    omega (arith, ints)

pub second-before_part : (at : Local) → 0 < nanosecond_of (wall_time at.wall)
    → unix_seconds_of (instant_of at) ≡ unix_seconds_of (instant_of at -ℤ pos 1)
unfolding instant_of
second-before_part at part =
    let parts = wall_clock-parts at.wall in
    let begun = second-begun (at.wall -ℤ offset_nanos at.offset) in
    let over = second-not_over (at.wall -ℤ offset_nanos at.offset) in
    let begun2 = second-begun (at.wall -ℤ offset_nanos at.offset -ℤ pos 1) in
    let over2 = second-not_over (at.wall -ℤ offset_nanos at.offset -ℤ pos 1) in
    omega (arith, ints)

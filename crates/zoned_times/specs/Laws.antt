-- Laws of date-times in zones. A function of `src/laws.rt` proves each of them.
use Rattle.std.specs.Prelude.{◌≡◌, ◌⊎◌, ℕ, ◌+◌, ℤ, pos, ◌+ℤ◌, ◌-ℤ◌, ◌*ℤ◌, ◌≤ℤ◌, ◌<ℤ◌, Option, Some, Ok}
use Rattle.calendar_values.specs.Clock.{nanos_per_day}
use Rattle.offset_times.specs.Local.{Local, instant_of, wall_at, ShownAt}
use Rattle.utc_times.specs.UnixTime.{instant_of_second}
use Rattle.zones.specs.Zones.{ZoneParts, IsZone, HasTransition, zone_offset, fixed_zone}
use Rattle.zones.specs.declared.tail.Tail.{Tail}
use Rattle.zones.specs.declared.time_type.TimeType.{TimeType}
use Rattle.zoned_times.specs.declared.gap.Gap.{Gap}
use Rattle.zoned_times.specs.declared.local_times.LocalTimes.{LocalTimes}
use Rattle.zoned_times.specs.declared.local_times.LocalTimes.TheVariants as local_times
use Rattle.zoned_times.specs.Choices.{earlier_of, later_of, compatible_of, only_of}
use Rattle.zoned_times.specs.Gaps.{gap_start, gap_end}
use Rattle.zoned_times.specs.Zoned.{transition_instant, HasOffset, ShownIn, IsOfZone, Shows, AreTimesOf}

-- in a zone an instant is shown by one date-time at most, and that has the instant
pub record InstantsAreKept : Type 0 where
  pub instant : (z : ZoneParts) (i : ℤ) (at : Local) → ShownIn z i (Some at) → instant_of at ≡ i
  pub one : (z : ZoneParts) → IsZone z → (i : ℤ) (a b : Option Local) → ShownIn z i a → ShownIn z i b → a ≡ b

-- the date-time is one of those of a wall clock
abbrev pub IsAmong : Local → LocalTimes → Type 0
IsAmong v (local_times.Single at) = v ≡ at
IsAmong v (local_times.Gap gap earlier later) = ⊥
IsAmong v (local_times.Fold earlier later) = (v ≡ earlier) ⊎ (v ≡ later)

-- each instant is among the date-times of the wall clock that the zone shows then
abbrev pub InstantsAreFound : Type 0
InstantsAreFound = (z : ZoneParts) (i : ℤ) (at : Local) (times : LocalTimes) → ShownIn z i (Some at) → AreTimesOf z at.wall times → IsAmong at times

-- a zone with one offset shows instants and wall clocks at that offset
pub record FixedIsItsOffset : Type 0 where
  pub shown : (first : TimeType) (i : ℤ) (found : Option Local) → ShownIn (fixed_zone first) i found → ShownAt found i first.offset
  pub times : (first : TimeType) (w : ℤ) (times : LocalTimes) → AreTimesOf (fixed_zone first) w times → times ≡ local_times.Single (wall_at w first.offset)

-- no date-time of the zone with the wall clock has an earlier instant, or a later one
abbrev pub IsEarliest : ZoneParts → ℤ → Local → Type 0
IsEarliest z wall at = (v : Local) → Shows z wall v → instant_of at ≤ℤ instant_of v

abbrev pub IsLatest : ZoneParts → ℤ → Local → Type 0
IsLatest z wall at = (v : Local) → Shows z wall v → instant_of v ≤ℤ instant_of at

-- a date-time that takes the place of a skipped wall clock lies before the gap, and is earlier than the wall clock by the length of the
-- gap; or it lies after the gap, and is later by that. The second part asks that no other transition lies so near
pub record IsMovedBack (wall : ℤ) (gap : Gap) (at : Local) : Type 0 where
  pub before : instant_of at <ℤ instant_of_second gap.second
  pub shifted : at.offset ≡ gap.before → at.wall ≡ wall -ℤ (gap_end gap -ℤ gap_start gap)

pub record IsMovedForward (wall : ℤ) (gap : Gap) (at : Local) : Type 0 where
  pub after : instant_of_second gap.second ≤ℤ instant_of at
  pub shifted : at.offset ≡ gap.after → at.wall ≡ wall +ℤ (gap_end gap -ℤ gap_start gap)

-- what fits the date-times of a wall clock: P where there are some, Q in a gap
abbrev pub Fits : LocalTimes → Type 0 → (Gap → Type 0) → Type 0
Fits (local_times.Single at) P Q = P
Fits (local_times.Gap gap earlier later) P Q = Q gap
Fits (local_times.Fold earlier later) P Q = P

-- each choice is of the zone. Of two date-times earlier and compatible are the first, and later is the last. In a gap earlier goes
-- back by the length of the gap, and later and compatible go forward by it. What is not rejected is the only one
pub record ChoicesAreRight : Type 0 where
  pub earlier : (z : ZoneParts) (w : ℤ) (times : LocalTimes) (at : Local) → AreTimesOf z w times → earlier_of times ≡ Ok at
      → IsOfZone z at × Fits times (Shows z w at × IsEarliest z w at) (λ gap. IsMovedBack w gap at)
  pub later : (z : ZoneParts) (w : ℤ) (times : LocalTimes) (at : Local) → AreTimesOf z w times → later_of times ≡ Ok at
      → IsOfZone z at × Fits times (Shows z w at × IsLatest z w at) (λ gap. IsMovedForward w gap at)
  pub compatible : (z : ZoneParts) (w : ℤ) (times : LocalTimes) (at : Local) → AreTimesOf z w times → compatible_of times ≡ Ok at
      → IsOfZone z at × Fits times (Shows z w at × IsEarliest z w at) (λ gap. IsMovedForward w gap at)
  pub only : (z : ZoneParts) (w : ℤ) (times : LocalTimes) (at : Local) → AreTimesOf z w times → only_of times ≡ Ok at
      → Shows z w at × ((v : Local) → Shows z w v → v ≡ at)
  pub single : (z : ZoneParts) (w : ℤ) (times : LocalTimes) (at : Local) → AreTimesOf z w times → Shows z w at
      → ((v : Local) → Shows z w v → v ≡ at) → only_of times ≡ Ok at

-- no transition lies after the first instant and at or before the other
abbrev pub NoneBetween : ZoneParts → ℤ → ℤ → Type 0
NoneBetween z i j = (k : ℕ) → HasTransition z k → i <ℤ transition_instant z k → j <ℤ transition_instant z k

-- from one transition up to the next one a zone shows instants at one offset
abbrev pub StaysBetween : Type 0
StaysBetween =
    (z : ZoneParts) → IsZone z → (i j o : ℤ) (found : Option Local) → i ≤ℤ j → NoneBetween z i j → HasOffset z i o → ShownIn z j found → ShownAt found j o

-- clocks are not put back after the first instant and at or before the other
abbrev pub NoFoldBetween : ZoneParts → ℤ → ℤ → Type 0
NoFoldBetween z i j =
    (k : ℕ) → HasTransition z k → i <ℤ transition_instant z k → transition_instant z k ≤ℤ j → zone_offset z k ≤ℤ zone_offset z (k + 1)

-- where clocks are not put back between, the later of two date-times of a zone has the later wall clock
abbrev pub OrderIsKept : Type 0
OrderIsKept = (z : ZoneParts) → IsZone z → (a b : Local) → IsOfZone z a → IsOfZone z b → instant_of a <ℤ instant_of b
    → NoFoldBetween z (instant_of a) (instant_of b) → a.wall <ℤ b.wall

-- the nanoseconds of 400 years, which are 146,097 days
abbrev pub nanos_of_400_years : ℤ
nanos_of_400_years = pos 146_097 *ℤ pos nanos_per_day

-- from the first moment of its rule on, a zone shows an instant 400 years later at the same offset
abbrev pub RulesRepeat : Type 0
RulesRepeat = (z : ZoneParts) (tail : Tail) → IsZone z → z.tail ≡ Some tail → (i o p : ℤ) → instant_of_second tail.from ≤ℤ i
    → HasOffset z i o → HasOffset z (i +ℤ nanos_of_400_years) p → o ≡ p

-- Laws of zones. A function of `src/laws.rt` proves each of them.
use Rattle.std.specs.Prelude.{◌≡◌, ◌⊎◌, ℕ, ◌+◌, ℤ, pos, ◌+ℤ◌, ◌-ℤ◌, ◌≤ℤ◌, ◌<ℤ◌, Some}
use Rattle.zones.specs.declared.cycle.Cycle.{Cycle}
use Rattle.zones.specs.declared.interval.Interval.{Interval}
use Rattle.zones.specs.declared.local_instants.LocalInstants.{LocalInstants}
use Rattle.zones.specs.declared.local_instants.LocalInstants.TheVariants.{Single, Gap, Fold}
use Rattle.zones.specs.declared.tail.Tail.{Tail}
use Rattle.zones.specs.declared.time_type.TimeType.{TimeType}
use Rattle.zones.specs.Cycles.{IsCycleType, IsOneType}
use Rattle.zones.specs.Intervals.{IsInterval, IsWithin}
use Rattle.zones.specs.Seconds.{IsSecond}
use Rattle.zones.specs.Zones.{ZoneParts, IsZone, HasTransition, zone_second, zone_offset, IsZoneType, IsZoneOffset, IsZoneInstants, fixed_zone}

-- the second is one of those of a wall clock
abbrev pub IsAmong : ℤ → LocalInstants → Type 0
IsAmong t (Single u) = t ≡ u
IsAmong t (Gap u v s) = ⊥
IsAmong t (Fold u v) = (t ≡ u) ⊎ (t ≡ v)

-- each second is among the seconds of the wall clock that the clocks show then
abbrev pub SecondsAreFound : Type 0
SecondsAreFound = (z : ZoneParts) → IsZone z → (t o : ℤ) (found : LocalInstants) → IsZoneOffset z t o → IsZoneInstants z (t +ℤ o) found → IsAmong t found

-- a second has one kind of local time
abbrev pub TypesAreOne : Type 0
TypesAreOne = (z : ZoneParts) → IsZone z → (t : ℤ) (a b : TimeType) → IsZoneType z t a → IsZoneType z t b → a ≡ b

-- no transition lies after the first second and at or before the other
abbrev pub NoneBetween : ZoneParts → ℤ → ℤ → Type 0
NoneBetween z s t = (k : ℕ) → HasTransition z k → s <ℤ zone_second z k → t <ℤ zone_second z k

-- from one transition up to the next one a zone has one kind of local time
abbrev pub StaysBetween : Type 0
StaysBetween = (z : ZoneParts) → IsZone z → (s t : ℤ) (a b : TimeType) → s ≤ℤ t → NoneBetween z s t → IsZoneType z s a → IsZoneType z t b → a ≡ b

-- clocks are not put back after the first second and at or before the other
abbrev pub NoFoldBetween : ZoneParts → ℤ → ℤ → Type 0
NoFoldBetween z s t =
    (k : ℕ) → HasTransition z k → s <ℤ zone_second z k → zone_second z k ≤ℤ t → zone_offset z k ≤ℤ zone_offset z (k + 1)

-- where clocks are not put back between, a later second shows a later wall clock
abbrev pub OrderIsKept : Type 0
OrderIsKept =
    (z : ZoneParts) → IsZone z → (s t o p : ℤ) → s <ℤ t → NoFoldBetween z s t → IsZoneOffset z s o → IsZoneOffset z t p → (s +ℤ o) <ℤ (t +ℤ p)

-- a rule has the same kind of local time 400 years later, which are 146,097 days
abbrev pub RulesRepeat : Type 0
RulesRepeat =
    (z : ZoneParts) (tail : Tail) → IsZone z → z.tail ≡ Some tail → (t : ℤ) (a b : TimeType) → tail.from ≤ℤ t → IsZoneType z t a → IsZoneType z
    (t +ℤ pos 12_622_780_800) b → a ≡ b

-- a zone with one kind of local time has its offset at all seconds, and each wall clock at one second
pub record FixedIsOneOffset : Type 0 where
  pub offset : (first : TimeType) (t o : ℤ) → IsZoneOffset (fixed_zone first) t o → o ≡ first.offset
  pub instants : (first : TimeType) (local : ℤ) (found : LocalInstants) → IsZoneInstants (fixed_zone first) local found → found ≡ Single
      (local -ℤ first.offset)

-- a rule that keeps one kind of local time all year has it at all seconds
abbrev pub OneTypeHolds : Type 0
OneTypeHolds = (c : Cycle) (kept : TimeType) → IsOneType c (Some kept) → (t : ℤ) (found : TimeType) → IsSecond t → IsCycleType c t found → found ≡ kept

-- at each second of the interval of a zone, the zone has its kind of local time
abbrev pub IntervalsHold : Type 0
IntervalsHold = (z : ZoneParts) (s t : ℤ) (found : Interval) → IsInterval z s found → IsWithin found t → IsZoneType z t found.kind

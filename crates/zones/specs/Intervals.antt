-- Stretches of time with one kind of local time.
use Rattle.std.specs.Prelude.{◌≡◌, ℕ, ◌+◌, ◌<◌, ◌≤◌, ℤ, pos, neg_ℤ, ◌≤ℤ◌, ◌<ℤ◌, List, length, get_or}
use Rattle.zones.specs.declared.interval.Interval.{Interval}
use Rattle.zones.specs.Clocks.{IsPlace}
use Rattle.zones.specs.Zones.{ZoneParts, HasTransition, zone_second, zone_type, IsZoneType, IsZoneOffset}

-- the second lies in the interval
abbrev pub IsWithin : Interval → ℤ → Type 0
IsWithin interval t = (interval.from ≤ℤ t) × (t <ℤ interval.until)

-- the interval of a zone in which a second lies: from the last transition at or before it up to the next one, with the kind of
-- local time between them; without a transition before it, from the first second that zones know, and without a next one, to the last
pub record IsInterval (z : ZoneParts) (second : ℤ) (found : Interval) : Type 0 where
  pub place : ℕ
  pub is : IsPlace (HasTransition z) (zone_second z) second place
  pub kind : found.kind ≡ zone_type z place
  pub begin : (k : ℕ) → k + 1 ≡ place → found.from ≡ zone_second z k
  pub first : place ≡ 0 → found.from ≡ neg_ℤ (pos 34_560_000_000_000)
  pub end : HasTransition z place → found.until ≡ zone_second z place
  pub last : (HasTransition z place → ⊥) → found.until ≡ pos 34_560_000_000_001
  pub within : IsWithin found second

-- the zone has the kind of local time of an interval at each second of it
abbrev pub Holds : ZoneParts → Interval → Type 0
Holds z interval = (t : ℤ) → IsWithin interval t → IsZoneType z t interval.kind

-- the first numbers of a list, this many, are the offsets of the zone at the seconds at their places: at all seconds, or at as many as
-- the list has room for; the rest of the list is as it was
pub record AreOffsets (z : ZoneParts) (seconds old new : List ℤ) (count : ℕ) : Type 0 where
  pub bound : count ≤ length seconds
  pub each : (i : ℕ) → i < count → IsZoneOffset z (get_or seconds i (pos 0)) (get_or new i (pos 0))
  pub kept : (i : ℕ) → count ≤ i → get_or new i (pos 0) ≡ get_or old i (pos 0)
  pub whole : count < length seconds → count ≡ length new

-- The wall clocks of a zone, in seconds: the earliest second at which its clocks show one.
use Rattle.std.specs.Prelude.{ℕ, zero, suc, ◌+◌, Bool, true, ◌&&◌, nat_lt, if◌then◌else◌, ℤ, ◌-ℤ◌, ◌≤ℤ◌, int_le, int_lt, unsigned_abs}
use Rattle.std.specs.Prelude.{List, length, Option, Some, None}
use Rattle.zones.specs.Zones.{ZoneParts, IsZone, ZoneShows, zone_offset, zone_second}
use Rattle.zones.specs.declared.tail.Tail.{Tail}
use Rattle.zones.specs.declared.transition.Transition.{Transition}

-- whether a zone has a transition at a place: a table ends, and a rule does not
abbrev pub has_of : List Transition → Option Tail → ℕ → Bool
has_of rows None k = nat_lt k (length rows)
has_of rows (Some tail) k = true

abbrev pub has_transition : ZoneParts → ℕ → Bool
has_transition z = has_of z.rows z.tail

-- whether the transition before a place is at or before a second
abbrev pub has_begun : ZoneParts → ℤ → ℕ → Bool
has_begun z t zero = true
has_begun z t (suc k) = has_transition z k && int_le (zone_second z k) t

-- whether the transition at a place is after a second
abbrev pub is_ahead : ZoneParts → ℤ → ℕ → Bool
is_ahead z t k = if has_transition z k then int_lt t (zone_second z k) else true

-- the second at which the offset before the transition at a place makes the clocks show a wall clock, if it holds then
abbrev pub shown_at : ZoneParts → ℤ → ℕ → Option ℤ
shown_at z local k =
    let t = local -ℤ zone_offset z k in
    if has_begun z t k && is_ahead z t k then Some t else None

-- the earlier of two seconds, of which there may be one or none
abbrev pub earlier_of : Option ℤ → Option ℤ → Option ℤ
earlier_of None other = other
earlier_of (Some t) None = Some t
earlier_of (Some t) (Some u) = Some (if int_lt u t then u else t)

-- the earliest of the seconds at which the clocks show a wall clock by the offsets before the first transitions, so many of them
unfoldable pub earliest_of : ZoneParts → ℤ → ℕ → Option ℤ
earliest_of z local zero = None
earliest_of z local (suc k) = earlier_of (shown_at z local k) (earliest_of z local k)

-- so many transitions that a later one is not reached by a wall clock: each is a second later than the one before it
abbrev pub most_places : ZoneParts → ℤ → ℕ
most_places z local = unsigned_abs (local -ℤ zone_second z 0) + 100_000

-- the earliest second at which the clocks of a zone show a wall clock, or None if they skip it
abbrev pub earliest_second : ZoneParts → ℤ → Option ℤ
earliest_second z local = earliest_of z local (most_places z local)

-- the clocks of the zone show the wall clock at the second, and at no earlier one; or they never show it
abbrev pub IsEarliest : ZoneParts → ℤ → Option ℤ → Type 0
IsEarliest z local (Some t) = ZoneShows z local t × ((u : ℤ) → ZoneShows z local u → t ≤ℤ u)
IsEarliest z local None = (u : ℤ) → ZoneShows z local u → ⊥

-- of each wall clock it is the earliest second
abbrev pub EarliestHolds : Type 0
EarliestHolds = (z : ZoneParts) → IsZone z → (local : ℤ) → IsEarliest z local (earliest_second z local)

-- The earliest second of a wall clock in a zone.
use Rattle.std.proofs.Common.{◌≡◌, ◌⊎◌, inl, inr, refl, sym, ap, ◌∙◌, arith, ℕ, zero, suc, ◌+◌, ◌-◌, ◌<◌, Bool, true, false, ℤ, pos, ◌+ℤ◌}
use Rattle.std.proofs.Common.{◌-ℤ◌, ◌≤ℤ◌, ◌<ℤ◌}
use Rattle.std.proofs.Common.{List, length, Option, Some, None}
use Rattle.std.proofs.lemmas.Bool.{and_parts, cases_order, cases_Bool}
use Rattle.std.proofs.lemmas.Bool.Decides.{nat_tests}
use Rattle.std.proofs.lemmas.Int.{ints}
use Rattle.std.specs.Prelude.{◌&&◌, nat_lt, int_le, int_lt}
use Rattle.calendar_values.specs.SignedArith.{signed_arith}
use Rattle.zones.specs.Clocks.{ShowsAt, join}
use Rattle.zones.specs.Ranges.{IsNear}
use Rattle.zones.specs.Cycles.{moment_at, cycle_second}
use Rattle.zones.specs.Tables.{table_second}
use Rattle.zones.specs.Zones.{ZoneParts, IsZone, IsZoneOf, IsJoined, HasOf, HasTransition, seconds_of, joined_second, tail_second}
use Rattle.zones.specs.Zones.{tail_place, zone_second, zone_offset, zone_type}
use Rattle.zones.specs.Zones.{ZoneShows, IsZoneInstants}
use Rattle.zones.specs.declared.local_instants.LocalInstants.TheVariants.{Single, Gap, Fold}
use Rattle.zones.specs.declared.tail.Tail.{Tail}
use Rattle.zones.specs.declared.time_type.TimeType.{TimeType}
use Rattle.zones.specs.declared.transition.Transition.{Transition}
use Rattle.log_zones.specs.Earliest.{has_of, has_transition, has_begun, is_ahead, shown_at, earlier_of, earliest_of, most_places}
use Rattle.log_zones.specs.Earliest.{earliest_second, IsEarliest, EarliestHolds}

-- ---- a zone has fewer transitions up to a second than seconds

joined_low : {A : Type 0} (n : ℕ) (f g : ℕ → A) (k : ℕ) → k < n → join n f g k ≡ f k
joined_low n f g k h = let t : nat_lt k n ≡ true = grind (arith, nat_tests) in rw t refl

joined_high : {A : Type 0} (n : ℕ) (f g : ℕ → A) (k j : ℕ) → k ≡ n + j → join n f g k ≡ g j
joined_high n f g k j h =
    let t : nat_lt k n ≡ false = grind (arith, nat_tests) in
    let e : k - n ≡ j = omega arith in
    rw (t, e) refl

-- the next moment of a rule
next_moment : (p j : ℕ) → moment_at (p + (j + 1)) ≡ moment_at (p + j) +ℤ pos 1
next_moment p j = omega (arith, ints)

joined_rises : (first : TimeType) (rows : List Transition) (tail : Tail) → IsJoined first rows tail → (k : ℕ)
    → joined_second rows tail k <ℤ joined_second rows tail (k + 1)
joined_rises first rows tail h k =
    let n = length rows in
    elim (cases_order (k + 1) n) [
      | inl same ↦
          let low = joined_low n (table_second rows) (tail_second tail) k (omega arith) in
          let high = joined_high n (table_second rows) (tail_second tail) (k + 1) 0 (omega arith) in
          let start : tail_place tail + 0 ≡ tail_place tail = omega arith in
          let at : tail_second tail 0 ≡ cycle_second tail.cycle tail.moment =
          ap (λ (p : ℕ). cycle_second tail.cycle (moment_at p)) start ∙ ap (cycle_second tail.cycle) h.place in
          let step = h.begins.follows k same in
          rw (low, high, at) step
      | inr (inl less) ↦
          let low = joined_low n (table_second rows) (tail_second tail) k (omega arith) in
          let next = joined_low n (table_second rows) (tail_second tail) (k + 1) less in
          rw (low, next) (h.forward.rises k less)
      | inr (inr more) ↦
          let j = k - n in
          let high = joined_high n (table_second rows) (tail_second tail) k j (omega arith) in
          let next = joined_high n (table_second rows) (tail_second tail) (k + 1) (j + 1) (omega arith) in
          let step = (h.runs (moment_at (tail_place tail + j))).rises in
          let moment : moment_at (tail_place tail + (j + 1)) ≡ moment_at (tail_place tail + j) +ℤ pos 1 = next_moment (tail_place tail) j in
          rw (high, next, ap (cycle_second tail.cycle) moment) step
    ]

rises_of : (first : TimeType) (rows : List Transition) (tail : Option Tail) → IsZoneOf first rows tail → (k : ℕ) → HasOf rows tail (k + 1)
    → seconds_of rows tail k <ℤ seconds_of rows tail (k + 1)
rises_of first rows None h k has = h.rises k has
rises_of first rows (Some tail) h k has = joined_rises first rows tail h k

down_of : (rows : List Transition) (tail : Option Tail) (k : ℕ) → HasOf rows tail (k + 1) → HasOf rows tail k
down_of rows None k has = omega (arith, has)
down_of rows (Some tail) k has = has

grows_of : (first : TimeType) (rows : List Transition) (tail : Option Tail) → IsZoneOf first rows tail → (k : ℕ) → HasOf rows tail k
    → (seconds_of rows tail 0 +ℤ pos k) ≤ℤ seconds_of rows tail k
grows_of first rows tail h zero has = omega (arith, ints)
grows_of first rows tail h (suc k) has =
    let same : suc k ≡ k + 1 = omega arith in
    let has_next : HasOf rows tail (k + 1) = rw same at has in
    let before = grows_of first rows tail h k (down_of rows tail k has_next) in
    let step = rises_of first rows tail h k has_next in
    let now : (seconds_of rows tail 0 +ℤ pos (k + 1)) ≤ℤ seconds_of rows tail (k + 1) = omega (arith, ints) in
    rw same now

-- ---- what is shown at a place

has_is : (rows : List Transition) (tail : Option Tail) (k : ℕ) → has_of rows tail k ≡ true → HasOf rows tail k
has_is rows None k e = grind (arith, nat_tests, e)
has_is rows (Some tail) k e = tt

has_true : (rows : List Transition) (tail : Option Tail) (k : ℕ) → HasOf rows tail k → has_of rows tail k ≡ true
has_true rows None k has = grind (arith, nat_tests, has)
has_true rows (Some tail) k has = refl

le_is : (a b : ℤ) → int_le a b ≡ true → a ≤ℤ b
le_is a b e = omega (arith, signed_arith, e)

le_true : (a b : ℤ) → a ≤ℤ b → int_le a b ≡ true
le_true a b h = elim (cases_Bool (int_le a b)) [ inl t ↦ t | inr f ↦ absurd (omega (arith, signed_arith, f, h)) ]

lt_is : (a b : ℤ) → int_lt a b ≡ true → a <ℤ b
lt_is a b e = omega (arith, signed_arith, e)

lt_true : (a b : ℤ) → a <ℤ b → int_lt a b ≡ true
lt_true a b h = elim (cases_Bool (int_lt a b)) [ inl t ↦ t | inr f ↦ absurd (omega (arith, signed_arith, f, h)) ]

begun_is : (z : ZoneParts) (t : ℤ) (k : ℕ) → has_begun z t k ≡ true → (j : ℕ) → j + 1 ≡ k → HasTransition z j × (zone_second z j ≤ℤ t)
begun_is z t zero e j at = absurd (omega (arith, at))
begun_is z t (suc k) e j at =
    let parts = and_parts (has_transition z k) (int_le (zone_second z k) t) e in
    let same : k ≡ j = omega (arith, at) in
    let now : HasTransition z k × (zone_second z k ≤ℤ t) = (has_is z.rows z.tail k parts.0, le_is (zone_second z k) t parts.1) in
    rw same at now

begun_true : (z : ZoneParts) (t : ℤ) (k : ℕ) → ((j : ℕ) → j + 1 ≡ k → HasTransition z j × (zone_second z j ≤ℤ t)) → has_begun z t k ≡ true
begun_true z t zero h = refl
begun_true z t (suc k) h =
    let at = h k (omega arith) in
    rw (has_true z.rows z.tail k at.0, le_true (zone_second z k) t at.1) refl

ahead_is : (z : ZoneParts) (t : ℤ) (k : ℕ) → is_ahead z t k ≡ true → HasTransition z k → t <ℤ zone_second z k
ahead_is z t k e has = lt_is t (zone_second z k) (rw (has_true z.rows z.tail k has) at e)

ahead_true : (z : ZoneParts) (t : ℤ) (k : ℕ) → (HasTransition z k → t <ℤ zone_second z k) → is_ahead z t k ≡ true
ahead_true z t k h = elim (cases_Bool (has_transition z k)) [
  | inl has ↦ rw has (lt_true t (zone_second z k) (h (has_is z.rows z.tail k has)))
  | inr none ↦ rw none refl
]

-- the test of a place
abbrev Test : ZoneParts → ℤ → ℕ → Bool
Test z local k = let t = local -ℤ zone_offset z k in has_begun z t k && is_ahead z t k

shown_sound : (z : ZoneParts) (local : ℤ) (k : ℕ) → Test z local k ≡ true → ZoneShows z local (local -ℤ zone_offset z k)
shown_sound z local k e =
    let t = local -ℤ zone_offset z k in
    let parts = and_parts (has_begun z t k) (is_ahead z t k) e in (
      k,
      record {
        place = record { reached = begun_is z t k parts.0; ahead = ahead_is z t k parts.1 };
        shown = omega (arith, signed_arith);
      },
    )

shown_true : (z : ZoneParts) (local t : ℤ) (k : ℕ) → ShowsAt (HasTransition z) (zone_second z) (zone_offset z) local t k
    → shown_at z local k ≡ Some t
shown_true z local t k h =
    let shown = h.shown in
    let at : local -ℤ zone_offset z k ≡ t = omega (arith, signed_arith) in
    rw (at, begun_true z t k h.place.reached, ahead_true z t k h.place.ahead) refl

-- ---- the earliest of so many places

-- the second of each of so many places is not earlier
abbrev NoneEarlier : ZoneParts → ℤ → ℕ → ℤ → Type 0
NoneEarlier z local n t = (k : ℕ) (u : ℤ) → k < n → shown_at z local k ≡ Some u → t ≤ℤ u

abbrev Among : ZoneParts → ℤ → ℕ → Option ℤ → Type 0
Among z local n None = (k : ℕ) → k < n → shown_at z local k ≡ None
Among z local n (Some t) = ZoneShows z local t × NoneEarlier z local n t

shown_or_none : (z : ZoneParts) (local : ℤ) (k : ℕ) → ((shown_at z local k ≡ Some (local -ℤ zone_offset z k)) × ZoneShows z local (local -ℤ zone_offset z k))
    ⊎ (shown_at z local k ≡ None)
shown_or_none z local k = elim (cases_Bool (Test z local k)) [
  | inl t ↦ inl (rw t refl, shown_sound z local k t)
  | inr f ↦ inr (rw f refl)
]

none_some : (u : ℤ) → ◌≡◌ {A = Option ℤ} None (Some u) → ⊥
none_some u e = absurd cc

same_some : (t u : ℤ) → ◌≡◌ {A = Option ℤ} (Some t) (Some u) → t ≡ u
same_some t u e = cc

next_place : (k n : ℕ) → k < suc n → (k < n) ⊎ (k ≡ n)
next_place k n h = elim (cases_order k n) [ inl same ↦ inr same | inr (inl less) ↦ inl less | inr (inr more) ↦ absurd (omega (arith, h, more)) ]

-- one more place, which shows nothing
skip : (z : ZoneParts) (local : ℤ) (n : ℕ) (found : Option ℤ) → shown_at z local n ≡ None → Among z local n found → Among z local (suc n) found
skip z local n None none h = λ k less. elim (next_place k n less) [ inl before ↦ h k before | inr same ↦ rw same none ]
skip z local n (Some t) none h = (
  h.0,
  λ k u less shown. elim (next_place k n less) [ inl before ↦ h.1 k u before shown | inr same ↦ absurd (none_some u (sym none ∙ rw same at shown)) ],
)

-- one more place, which shows the wall clock at a second
take_in : (z : ZoneParts) (local : ℤ) (n : ℕ) (t : ℤ) (found : Option ℤ) → shown_at z local n ≡ Some t → ZoneShows z local t → Among z local n found
    → Among z local (suc n) (earlier_of (Some t) found)
take_in z local n t None shown shows h = (
  shows,
  λ k u less at. elim (next_place k n less) [
    | inl before ↦ absurd (none_some u (sym (h k before) ∙ at))
    | inr same ↦ (let e = same_some t u (sym shown ∙ rw same at at) in omega (arith, signed_arith, e))
  ],
)
take_in z local n t (Some v) shown shows h = elim (cases_Bool (int_lt v t)) [
  | inl less ↦ rw less (
    h.0,
    λ k u under at. elim (next_place k n under) [
      | inl before ↦ h.1 k u before at
      | inr same ↦ (let e = same_some t u (sym shown ∙ rw same at at) in omega (arith, signed_arith, less, e))
    ],
  )
  | inr over ↦ rw over (
    shows,
    λ k u under at. elim (next_place k n under) [
      | inl before ↦ (let later = h.1 k u before at in omega (arith, signed_arith, over, later))
      | inr same ↦ (let e = same_some t u (sym shown ∙ rw same at at) in omega (arith, signed_arith, e))
    ],
  )
]

among : (z : ZoneParts) (local : ℤ) (n : ℕ) → Among z local n (earliest_of z local n)
unfolding earliest_of
among z local zero = λ k less. absurd (omega (arith, less))
among z local (suc n) = elim (shown_or_none z local n) [
  | inl at ↦ rw at.0 (take_in z local n _ (earliest_of z local n) at.0 at.1 (among z local n))
  | inr none ↦ rw none (skip z local n (earliest_of z local n) none (among z local n))
]

-- each place at which the clocks show the wall clock is among so many
place_below : (z : ZoneParts) → IsZone z → (local t : ℤ) (k : ℕ) → ShowsAt (HasTransition z) (zone_second z) (zone_offset z) local t k
    → k < most_places z local
place_below z h local t zero at = omega arith
place_below z h local t (suc k) at =
    let last = at.place.reached k (omega arith) in
    let reached = last.1 in
    let grown = grows_of z.first z.rows z.tail h k last.0 in
    let shown = at.shown in
    let least = (zone_type z (suc k)).offset_in.0 in
    omega (arith, ints, reached, grown, shown, least)

earliest_is : (z : ZoneParts) → IsZone z → (local : ℤ) (found : Option ℤ) → Among z local (most_places z local) found → IsEarliest z local found
earliest_is z h local None among = λ u shows.
    let none = among shows.0 (place_below z h local u shows.0 shows.1) in
    none_some u (sym none ∙ shown_true z local u shows.0 shows.1)
earliest_is z h local (Some t) among = (
  among.0,
  λ u shows. among.1 shows.0 u (place_below z h local u shows.0 shows.1) (shown_true z local u shows.0 shows.1),
)

pub earliest : EarliestHolds
earliest z h local = earliest_is z h local (earliest_second z local) (among z local (most_places z local))

-- ---- what all the seconds of a wall clock tell of it

first_single : (z : ZoneParts) (local t : ℤ) (found : Option ℤ) → IsZoneInstants z local (Single t) → IsEarliest z local found → Some t ≡ found
first_single z local t None all h = absurd (h t all.0)
first_single z local t (Some u) all h = ap Some (sym (all.1 u h.0))

first_fold : (z : ZoneParts) (local t u : ℤ) (found : Option ℤ) → IsZoneInstants z local (Fold t u) → IsEarliest z local found → Some t ≡ found
first_fold z local t u None all h = absurd (h t all.1)
first_fold z local t u (Some v) all h = elim (all.3 v h.0) [
  | inl same ↦ ap Some (sym same)
  | inr late ↦ (let least = h.1 t all.1 in let before = all.0 in absurd (omega (arith, signed_arith, least, before, late)))
]

first_gap : (z : ZoneParts) (local t u s : ℤ) (found : Option ℤ) → IsZoneInstants z local (Gap t u s) → IsEarliest z local found
    → ◌≡◌ {A = Option ℤ} None found
first_gap z local t u s None all h = refl
first_gap z local t u s (Some v) all h = absurd (all.0 v h.0)

pub from_single : (z : ZoneParts) → IsZone z → (local t : ℤ) → IsZoneInstants z local (Single t) → Some t ≡ earliest_second z local
from_single z h local t all = first_single z local t (earliest_second z local) all (earliest z h local)

pub from_fold : (z : ZoneParts) → IsZone z → (local t u : ℤ) → IsZoneInstants z local (Fold t u) → Some t ≡ earliest_second z local
from_fold z h local t u all = first_fold z local t u (earliest_second z local) all (earliest z h local)

pub from_gap : (z : ZoneParts) → IsZone z → (local t u s : ℤ) → IsZoneInstants z local (Gap t u s)
    → ◌≡◌ {A = Option ℤ} None (earliest_second z local)
from_gap z h local t u s all = first_gap z local t u s (earliest_second z local) all (earliest z h local)

-- ---- no second is further from its wall clock than an offset

near_shown : (z : ZoneParts) (local t : ℤ) → ZoneShows z local t → IsNear local t
near_shown z local t shows =
    let shown = shows.1.shown in
    let range = (zone_type z shows.0).offset_in in (
      omega (arith, signed_arith, shown, range.0, range.1),
      omega (arith, signed_arith, shown, range.0, range.1),
    )

pub near_single : (z : ZoneParts) (local t : ℤ) → IsZoneInstants z local (Single t) → IsNear local t
near_single z local t all = near_shown z local t all.0

pub near_fold : (z : ZoneParts) (local t u : ℤ) → IsZoneInstants z local (Fold t u) → IsNear local t
near_fold z local t u all = near_shown z local t all.1

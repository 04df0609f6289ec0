-- Laws of date-times in zones.
use Rattle.std.proofs.Common.{◌≡◌, ◌∙◌, zero, suc, ◌<◌, ℤ, pos, negsuc, ◌+ℤ◌}
use Rattle.std.proofs.Common.{◌-ℤ◌, ◌≤ℤ◌, ◌<ℤ◌, Option, Some, None, SomeIff, arith, refl, sym, ap, subst}
use Rattle.std.proofs.lemmas.Int.{ints}
use Rattle.calendar_values.specs.WallClock.{unix_seconds_of, IsWallClock}
use Rattle.offset_times.specs.Local.{Local, instant_of, wall_at, local_at, shown_at, ShownAt}
use Rattle.offset_times.specs.InstantLemmas.{instant_of-local_at, shown_at-instant_of}
use Rattle.zones.specs.Laws as zone_laws
use Rattle.zones.specs.Zones.{ZoneParts, IsZone, HasTransition, zone_second, zone_type, fixed_zone, IsZoneOffset, IsZoneType}
use Rattle.zones.specs.declared.time_type.TimeType.{TimeType}
use Rattle.zoned_times.specs.declared.local_times.LocalTimes.{LocalTimes}
use Rattle.zoned_times.specs.declared.local_times.LocalTimes.TheVariants as local_times
use Rattle.zoned_times.specs.Laws.{IsAmong, NoneBetween, NoFoldBetween, RulesRepeat, nanos_of_400_years}
use Rattle.zoned_times.specs.Zoned.{HasOffset, ShownIn, IsOfZone, Shows, AreTimesOf}
use Rattle.zoned_times.proofs.PlaceLemmas.{second-begun, second-not_over, place-of_instant, HasOffset-second, IsZoneOffset-instant}
use Rattle.zoned_times.proofs.TimesLemmas.{wall_at-parts}

-- the kind of local time at an instant is that at its second
type-instant : (z : ZoneParts) (i o : ℤ) → (h : HasOffset z i o) → IsZoneType z (unix_seconds_of i) (zone_type z h.0)
type-instant z i o h = (h.0, place-of_instant (HasTransition z) (zone_second z) i h.0 h.1, refl)

-- an instant has one offset
pub one-offset : zone_laws.TypesAreOne → (z : ZoneParts) → IsZone z → (i o p : ℤ) → HasOffset z i o → HasOffset z i p → o ≡ p
one-offset law z zone i o p h g =
    let same = law z zone (unix_seconds_of i) (zone_type z h.0) (zone_type z g.0) (type-instant z i o h) (type-instant z i p g) in
    h.2 ∙ ap (λ (t : TimeType). t.offset) same ∙ sym g.2

-- between two transitions it stays
pub stays : zone_laws.StaysBetween → (z : ZoneParts) → IsZone z → (i j o p : ℤ) → i ≤ℤ j → NoneBetween z i j → HasOffset z i o → HasOffset z j p → p ≡ o
stays law z zone i j o p le none h g =
    let begun_i = second-begun i in
    let over_i = second-not_over i in
    let begun_j = second-begun j in
    let over_j = second-not_over j in
    let same = law z zone (unix_seconds_of i) (unix_seconds_of j) (zone_type z h.0) (zone_type z g.0) (omega (arith, ints))
    (λ k has later. (let last = none k has (omega (arith, ints)) in omega (arith, ints))) (type-instant z i o h) (type-instant z j p g) in
    g.2 ∙ ap (λ (t : TimeType). t.offset) (sym same) ∙ sym h.2

-- where clocks are not put back between, a later instant has a later wall clock
pub kept : zone_laws.OrderIsKept → zone_laws.TypesAreOne → (z : ZoneParts) → IsZone z → (a b : Local) → IsOfZone z a → IsOfZone z b
    → instant_of a <ℤ instant_of b → NoFoldBetween z (instant_of a) (instant_of b) → a.wall <ℤ b.wall
kept law one z zone a b ha hb less none = choose (unix_seconds_of j -ℤ unix_seconds_of i) refl where
  i : ℤ
  i = instant_of a

  j : ℤ
  j = instant_of b

  choose : (d : ℤ) → d ≡ unix_seconds_of j -ℤ unix_seconds_of i → a.wall <ℤ b.wall
  choose (pos zero) e =
      let wall_a = shown_at-instant_of a in
      let wall_b = shown_at-instant_of b in
      let x : unix_seconds_of j ≡ unix_seconds_of i = omega (arith, ints) in
      let here = subst (λ (r : ℤ). IsZoneOffset z r b.offset) x (IsZoneOffset-instant z j b.offset hb) in
      let same = one-offset one z zone i a.offset b.offset ha (HasOffset-second z i b.offset here) in
      omega (arith, ints)
  choose (pos (suc n)) e =
      let begun_i = second-begun i in
      let over_i = second-not_over i in
      let begun_j = second-begun j in
      let over_j = second-not_over j in
      let wall_a = shown_at-instant_of a in
      let wall_b = shown_at-instant_of b in
      let first = IsZoneOffset-instant z i a.offset ha in
      let last = IsZoneOffset-instant z j b.offset hb in
      let up = law z zone (unix_seconds_of i) (unix_seconds_of j) a.offset b.offset (omega (arith, ints))
      (λ k has later within. none k has (omega (arith, ints)) (omega (arith, ints))) first last in
      omega (arith, ints)
  choose (negsuc n) e =
      let begun_i = second-begun i in
      let over_i = second-not_over i in
      let begun_j = second-begun j in
      let over_j = second-not_over j in
      absurd (omega (arith, ints))

-- a zone with one offset
pub fixed-shown : zone_laws.FixedIsOneOffset → (first : TimeType) (i : ℤ) (found : Option Local) → ShownIn (fixed_zone first) i found
    → ShownAt found i first.offset
fixed-shown law first i found h =
    let same = law.offset first (unix_seconds_of i) h.0 (IsZoneOffset-instant (fixed_zone first) i h.0 h.1) in
    subst (λ (o : ℤ). ShownAt found i o) same h.2

-- the date-time at the offset of a fixed zone is of the zone
fixed-shows : (first : TimeType) (w : ℤ) → Shows (fixed_zone first) w (wall_at w first.offset)
fixed-shows first w = (refl, (0, record { reached = λ k e. absurd (omega arith); ahead = λ has. absurd (none has) }, refl)) where
  none : HasTransition (fixed_zone first) 0 → ⊥
  none has = let less : 0 < 0 = has in omega arith

fixed-offset : zone_laws.FixedIsOneOffset → (first : TimeType) (w : ℤ) (v : Local) → Shows (fixed_zone first) w v → v ≡ wall_at w first.offset
fixed-offset law first w v h =
    let same = law.offset first (unix_seconds_of (instant_of v)) v.offset (IsZoneOffset-instant (fixed_zone first) (instant_of v) v.offset h.1) in
    wall_at-parts v w first.offset h.0 same

pub fixed-times : zone_laws.FixedIsOneOffset → (first : TimeType) (w : ℤ) (times : LocalTimes) → AreTimesOf (fixed_zone first) w times
    → times ≡ local_times.Single (wall_at w first.offset)
fixed-times law first w (local_times.Single at) h = ap local_times.Single (fixed-offset law first w at h.0)
fixed-times law first w (local_times.Gap gap earlier later) h = absurd (h.0 (wall_at w first.offset) (fixed-shows first w))
fixed-times law first w (local_times.Fold earlier later) h =
    let a = ap instant_of (fixed-offset law first w earlier h.1) in
    let b = ap instant_of (fixed-offset law first w later h.2) in
    let less = h.0 in
    absurd (omega (arith, ints))

-- an instant is shown as one date-time, and that has the instant
pub shown-instant : (z : ZoneParts) (i : ℤ) (at : Local) → ShownIn z i (Some at) → instant_of at ≡ i
shown-instant z i at h = ap instant_of h.2.1 ∙ instant_of-local_at i h.0

answered_alike : (r q : Option Local) (P : Type 0) (v : Local) → SomeIff r P v → SomeIff q P v → r ≡ q
answered_alike None None P v h g = refl
answered_alike None (Some y) P v h g = absurd (h g.0)
answered_alike (Some x) None P v h g = absurd (g h.0)
answered_alike (Some x) (Some y) P v h g = ap Some (h.1 ∙ sym g.1)

pub shown-one : zone_laws.TypesAreOne → (z : ZoneParts) → IsZone z → (i : ℤ) (a b : Option Local) → ShownIn z i a → ShownIn z i b → a ≡ b
shown-one law z zone i a b h g =
    let same = one-offset law z zone i h.0 g.0 h.1 g.1 in
    let there = subst (λ (o : ℤ). ShownAt a i o) same h.2 in
    answered_alike a b (IsWallClock (shown_at i g.0)) (local_at i g.0) there g.2

-- and is among the date-times of its wall clock
pub found-among : (z : ZoneParts) (i : ℤ) (at : Local) (times : LocalTimes) → ShownIn z i (Some at) → AreTimesOf z at.wall times → IsAmong at times
found-among z i at times h are = among times are where
  has : HasOffset z (instant_of at) at.offset
  has =
      let there = subst (λ (j : ℤ). HasOffset z j h.0) (sym (shown-instant z i at h)) h.1 in
      subst (HasOffset z (instant_of at)) (sym (ap (λ (v : Local). v.offset) h.2.1)) there

  among : (times : LocalTimes) → AreTimesOf z at.wall times → IsAmong at times
  among (local_times.Single v) are = are.1 at (refl, has)
  among (local_times.Gap gap earlier later) are = are.0 at (refl, has)
  among (local_times.Fold earlier later) are = are.3 at (refl, has)

-- 400 years later an instant has a later second by those of 400 years
second-400_years : (i : ℤ) → unix_seconds_of (i +ℤ nanos_of_400_years) ≡ unix_seconds_of i +ℤ pos 12_622_780_800
second-400_years i =
    let begun = second-begun i in
    let over = second-not_over i in
    let begun2 = second-begun (i +ℤ nanos_of_400_years) in
    let over2 = second-not_over (i +ℤ nanos_of_400_years) in
    omega (arith, ints)

pub repeat : zone_laws.RulesRepeat → RulesRepeat
repeat law z tail zone is i o p from h g =
    let over = second-not_over i in
    let there = subst (λ (s : ℤ). IsZoneType z s (zone_type z g.0)) (second-400_years i) (type-instant z (i +ℤ nanos_of_400_years) p g) in
    let same = law z tail zone is (unix_seconds_of i) (zone_type z h.0) (zone_type z g.0) (omega (arith, ints)) (type-instant z i o h) there in
    h.2 ∙ ap (λ (t : TimeType). t.offset) same ∙ sym g.2

-- Laws of zones.
use Rattle.std.proofs.Common.{◌≡◌, inl, inr, ℕ, zero, suc, ◌+◌, ◌-◌, ◌≤◌, ◌<◌, ℤ, pos, ◌+ℤ◌, ◌-ℤ◌, ◌≤ℤ◌, List, length, Option, Some, None, refl, sym, ap}
use Rattle.std.proofs.Common.{true, false, Bool, ◌∙◌, arith}
use Rattle.std.proofs.lemmas.Bool.Decides.{leb_tells}
use Rattle.calendar_values.specs.SignedArith.{signed_arith}
use Rattle.zones.specs.declared.cycle.Cycle.{Cycle}
use Rattle.zones.specs.declared.local_instants.LocalInstants.{LocalInstants}
use Rattle.zones.specs.declared.local_instants.LocalInstants.TheVariants.{Single, Gap, Fold}
use Rattle.zones.specs.declared.tail.Tail.{Tail}
use Rattle.zones.specs.declared.time_type.TimeType.{TimeType}
use Rattle.zones.specs.declared.transition.Transition.{Transition}
use Rattle.zones.specs.Clocks.{IsPlace, IsTypeAt}
use Rattle.zones.specs.Cycles.{Always, moment_at, cycle_second, cycle_type, is_first}
use Rattle.zones.specs.Laws.{SecondsAreFound, TypesAreOne, StaysBetween, OrderIsKept, RulesRepeat, FixedIsOneOffset, IntervalsHold}
use Rattle.zones.specs.Tables.{table_second}
use Rattle.zones.specs.Zones.{IsZoneOf, IsJoined, HasTransition, HasOf, seconds_of, types_of, zone_second, zone_type, zone_offset, IsZoneInstants}
use Rattle.zones.specs.Zones.{fixed_zone, joined_second, joined_type, tail_place, tail_second, tail_type}
use Rattle.zones.proofs.CycleLemmas.{second_shift, first_type, other_type, first_shift, other_shift}
use Rattle.zones.proofs.JoinedLemmas.{zone_runs as joined_runs, type_high}
use Rattle.zones.proofs.Sequences.{has_down, joined_high, place-unique, seconds_rise}
use Rattle.zones.proofs.ZoneLemmas.{zone_runs}

pub found : SecondsAreFound
found z h t o (Single u) offset is = is.1 t (offset.0, record { place = offset.1; shown = (let v = offset.2 in omega (arith, signed_arith)) })
found z h t o (Gap u v s) offset is = is.0 t (offset.0, record { place = offset.1; shown = (let v = offset.2 in omega (arith, signed_arith)) })
found z h t o (Fold u v) offset is = is.3 t (offset.0, record { place = offset.1; shown = (let v = offset.2 in omega (arith, signed_arith)) })

pub one : TypesAreOne
one z h t a b ha hb =
    let same = place-unique (zone_runs z h) t ha.0 hb.0 ha.1 hb.1 in
    ha.2 ∙ ap (zone_type z) same ∙ sym hb.2

pub stays : StaysBetween
stays z h s t a b le none ha hb =
    let there : IsPlace (HasTransition z) (zone_second z) t ha.0 = record {
      reached = λ j e. (let r = ha.1.reached j e in let under = r.1 in (r.0, omega (arith, signed_arith)));
      ahead = λ has. none ha.0 has (ha.1.ahead has);
    } in
    one z h t a b (ha.0, there, ha.2) hb

-- offsets do not fall from place to place up to this one
climbs : (O : ℕ → ℤ) (m : ℕ) (n : ℕ) → m ≤ n → ((k : ℕ) → m ≤ k → k < n → O k ≤ℤ O (k + 1)) → O m ≤ℤ O n
climbs O m zero le step =
    let same : m ≡ zero = omega arith in
    let e = ap O same in
    omega (arith, signed_arith)
climbs O m (suc n) le step = elim (leb_tells m n) [
  | inl below ↦
      let first = climbs O m n below.1 (λ k a b. step k a (omega arith)) in
      let last = step n below.1 (omega arith) in
      let same : suc n ≡ n + 1 = omega arith in
      let e = ap O same in
      omega (arith, signed_arith)
  | inr above ↦
      let same : m ≡ suc n = omega arith in
      let e = ap O same in
      omega (arith, signed_arith)
]

pub kept : OrderIsKept
kept z h s t o p lt none ho hp =
    let m = ho.0 in
    let n = hp.0 in
    let vo = ho.2 in
    let vp = hp.2 in
    let r = zone_runs z h in
    let le : m ≤ n = elim (leb_tells m n) [
      | inl below ↦ below.1
      | inr above ↦
          let e : m - 1 + 1 ≡ m = omega arith in
          let last = ho.1.reached (m - 1) e in
          let has : HasTransition z n = has_down (HasTransition z) r.down n (m - 1) (omega arith) last.0 in
          let up = seconds_rise r n (m - 1) (omega arith) last.0 in
          let ahead = hp.1.ahead has in
          let under = last.1 in
          absurd (omega (arith, signed_arith))
    ] in
    let up = climbs (zone_offset z) m n le (λ k a b.
    let e : n - 1 + 1 ≡ n = omega arith in
    let last = hp.1.reached (n - 1) e in
    let has : HasTransition z k = has_down (HasTransition z) r.down k (n - 1) (omega arith) last.0 in
    let rise = seconds_rise r k (n - 1) (omega arith) last.0 in
    let at_m : HasTransition z m = has_down (HasTransition z) r.down m k a has in
    let first = seconds_rise r m k a has in
    let ahead = ho.1.ahead at_m in
    let under = last.1 in
    none k has (omega (arith, signed_arith)) (omega (arith, signed_arith))) in
    omega (arith, signed_arith)

type_shift : (c : Cycle) (m : ℤ) → cycle_type c (m +ℤ pos 800) ≡ cycle_type c m
type_shift c m = choose (is_first m) refl where
  choose : (b : Bool) → is_first m ≡ b → cycle_type c (m +ℤ pos 800) ≡ cycle_type c m
  choose true e = first_type c (m +ℤ pos 800) (first_shift m 1 e) ∙ sym (first_type c m e)
  choose false e = other_type c (m +ℤ pos 800) (other_shift m 1 e) ∙ sym (other_type c m e)

later : (tail : Tail) (i : ℕ) → moment_at (tail_place tail + (i + 800)) ≡ moment_at (tail_place tail + i) +ℤ pos 800
later tail i = omega (arith, signed_arith)

tail_second-shift : (tail : Tail) (i : ℕ) → tail_second tail (i + 800) ≡ tail_second tail i +ℤ pos 12_622_780_800
tail_second-shift tail i =
    let s = second_shift tail.cycle (moment_at (tail_place tail + i)) 1 in
    let e = ap (cycle_second tail.cycle) (later tail i) in
    omega (arith, signed_arith)

tail_type-shift : (tail : Tail) (i : ℕ) → tail_type tail (i + 800) ≡ tail_type tail i
tail_type-shift tail i = ap (cycle_type tail.cycle) (later tail i) ∙ type_shift tail.cycle (moment_at (tail_place tail + i))

joined_repeat : (first : TimeType) (rows : List Transition) (tail : Tail) → IsJoined first rows tail → (t : ℤ) (a b : TimeType) → tail.from ≤ℤ t →
    IsTypeAt Always (joined_second rows tail) (joined_type first rows tail) t a
    → IsTypeAt Always (joined_second rows tail) (joined_type first rows tail) (t +ℤ pos 12_622_780_800) b → a ≡ b
joined_repeat first rows tail j t a b from ha hb =
    let n = length rows in
    let S = joined_second rows tail in
    let r = joined_runs first rows tail j in
    let begin = j.from_is in
    let seam = joined_high n (table_second rows) (tail_second tail) n 0 (omega arith) in
    let k = ha.0 in
    let some : n < k = elim (leb_tells k n) [
      | inl none ↦
          let up = seconds_rise r k n none.1 tt in
          let ahead = ha.1.ahead tt in
          absurd (omega (arith, signed_arith))
      | inr more ↦ omega arith
    ] in
    let i = k - n - 1 in
    let at : k ≡ n + i + 1 = omega arith in
    let s0 = joined_high n (table_second rows) (tail_second tail) (n + i) i refl in
    let s1 = joined_high n (table_second rows) (tail_second tail) k (i + 1) (omega arith) in
    let z0 = joined_high n (table_second rows) (tail_second tail) (k + 799) (i + 800) (omega arith) in
    let z1 = joined_high n (table_second rows) (tail_second tail) (k + 800) (i + 1 + 800) (omega arith) in
    let f0 = tail_second-shift tail i in
    let f1 = tail_second-shift tail (i + 1) in
    let reached = (ha.1.reached (n + i) (sym at)).1 in
    let ahead = ha.1.ahead tt in
    let there : IsPlace Always S (t +ℤ pos 12_622_780_800) (k + 800) = record {
      reached = λ q e. (let same : k + 799 ≡ q = omega arith in let now : S (k + 799) ≤ℤ (t +ℤ pos 12_622_780_800) = omega (arith, signed_arith) in
          (tt, rw same at now));
      ahead = λ h. omega (arith, signed_arith);
    } in
    let same = place-unique r (t +ℤ pos 12_622_780_800) (k + 800) hb.0 there hb.1 in
    let t0 = type_high first rows tail k (i + 1) (omega arith) in
    let t1 = type_high first rows tail (k + 800) (i + 1 + 800) (omega arith) in
    ha.2 ∙ t0 ∙ sym (tail_type-shift tail (i + 1)) ∙ sym t1 ∙ ap (joined_type first rows tail) same ∙ sym hb.2

repeat_of : (first : TimeType) (rows : List Transition) (o : Option Tail) (tail : Tail) → IsZoneOf first rows o → o ≡ Some tail → (t : ℤ) (a b : TimeType)
    → tail.from ≤ℤ t → IsTypeAt (HasOf rows o) (seconds_of rows o) (types_of first rows o) t a
    → IsTypeAt (HasOf rows o) (seconds_of rows o) (types_of first rows o) (t +ℤ pos 12_622_780_800) b → a ≡ b
repeat_of first rows None tail h e t a b from ha hb = absurd (none_is_some tail e) where
  none_is_some : (tail : Tail) → (let o : Option Tail = None in o ≡ Some tail) → ⊥
  none_is_some tail e = cc
repeat_of first rows (Some other) tail h e t a b from ha hb =
    let same : other ≡ tail = cc in
    joined_repeat first rows other h t a b (rw same from) ha hb

pub repeat : RulesRepeat
repeat z tail h e t a b from ha hb = repeat_of z.first z.rows z.tail tail h e t a b from ha hb

-- a zone with no transition has one place
place_fixed : (first : TimeType) (t : ℤ) (k : ℕ) → IsPlace (HasTransition (fixed_zone first)) (zone_second (fixed_zone first)) t k → k ≡ 0
place_fixed first t k place = elim (leb_tells k 0) [
  | inl none ↦ omega arith
  | inr some ↦
      let e : k - 1 + 1 ≡ k = omega arith in
      let has : k - 1 < 0 = (place.reached (k - 1) e).0 in
      absurd (omega arith)
]

fixed_at : (first : TimeType) (t o : ℤ) (k : ℕ) → IsPlace (HasTransition (fixed_zone first)) (zone_second (fixed_zone first)) t k → zone_offset
    (fixed_zone first) k ≡ first.offset
fixed_at first t o k place = ap (zone_offset (fixed_zone first)) (place_fixed first t k place)

fixed_instants : (first : TimeType) (local : ℤ) (found : LocalInstants) → IsZoneInstants (fixed_zone first) local found → found ≡ Single
    (local -ℤ first.offset)
fixed_instants first local (Single t) is =
    let at = is.0.1 in
    let o = fixed_at first t (pos 0) is.0.0 at.place in
    let shown = at.shown in
    let same : t ≡ local -ℤ first.offset = omega (arith, signed_arith) in
    ap Single same
fixed_instants first local (Gap t u s) is =
    let has : is.1.0 < 0 = is.1.1 in
    absurd (omega arith)
fixed_instants first local (Fold t u) is =
    let at = is.1.1 in
    let to = is.2.1 in
    let o = fixed_at first t (pos 0) is.1.0 at.place in
    let p = fixed_at first u (pos 0) is.2.0 to.place in
    let s1 = at.shown in
    let s2 = to.shown in
    let less = is.0 in
    absurd (omega (arith, signed_arith))

pub fixed : FixedIsOneOffset
fixed = record {
  offset = λ first t o h. h.2 ∙ fixed_at first t o h.0 h.1;
  instants = fixed_instants;
}

pub intervals : IntervalsHold
intervals z s t found is within =
    let there : IsPlace (HasTransition z) (zone_second z) t is.place = record {
      reached = λ j e. (let r = is.is.reached j e in let from = is.begin j e in (r.0, omega (arith, signed_arith)));
      ahead = λ has. (let until = is.end has in omega (arith, signed_arith));
    } in
    (is.place, there, is.kind)

-- The interval of a zone in which a second lies.
use Rattle.std.proofs.Common.{◌≡◌, inl, inr, ℕ, ◌+◌, ◌<◌, ℤ, pos, neg_ℤ, ◌≤ℤ◌, ◌<ℤ◌, List, length, get_or, set, Option, Some, None, refl}
use Rattle.std.proofs.Common.{sym, ap, subst, ◌∙◌, arith}
use Rattle.std.proofs.lemmas.Bool.{cases_order}
use Rattle.std.proofs.lemmas.List.{get_or-set_same, get_or-set_other}
use Rattle.std.specs.Prelude.{IfSome, IfNone}
use Rattle.calendar_values.specs.SignedArith.{signed_arith}
use Rattle.zones.specs.declared.interval.Interval.{Interval}
use Rattle.zones.specs.declared.transition.Transition.{Transition}
use Rattle.zones.specs.Clocks.{IsPlace}
use Rattle.zones.specs.Intervals.{IsInterval}
use Rattle.zones.specs.Seconds.{IsSecond}
use Rattle.zones.specs.Zones.{ZoneParts, IsZone, HasTransition, zone_second, zone_type, IsZoneType, IsZoneOffset, IsNextTransition, IsLastTransition}
use Rattle.zones.proofs.BetweenLemmas.{NextIs, next_is}
use Rattle.zones.proofs.Sequences.{place-unique}
use Rattle.zones.proofs.ZoneLemmas.{zone_runs}

-- where an interval begins, at its place
pub record BeginsAt (z : ZoneParts) (t : ℤ) (k : ℕ) (from : ℤ) : Type 0 where
  pub begin : (j : ℕ) → j + 1 ≡ k → from ≡ zone_second z j
  pub first : k ≡ 0 → from ≡ neg_ℤ (pos 34_560_000_000_000)
  pub begun : from ≤ℤ t

-- and where it ends
pub record EndsAt (z : ZoneParts) (t : ℤ) (k : ℕ) (until : ℤ) : Type 0 where
  pub end : HasTransition z k → until ≡ zone_second z k
  pub last : (HasTransition z k → ⊥) → until ≡ pos 34_560_000_000_001
  pub ahead : t <ℤ until

begins : (z : ZoneParts) (t : ℤ) → IsSecond t → (last : Option Transition) (from : ℤ) → IsLastTransition z t last
    → IfSome last (λ r. from ≡ r.second) → IfNone last (from ≡ neg_ℤ (pos 34_560_000_000_000))
    → (k : ℕ) × IsPlace (HasTransition z) (zone_second z) t k × BeginsAt z t k from
begins z t in_range None from is some none = (
  0,
  is,
  record { begin = λ j e. absurd (omega arith); first = λ e. none; begun = (let s = none in omega (arith, signed_arith)) },
)
begins z t in_range (Some row) from is some none = (
  is.0 + 1,
  is.1,
  record {
    begin = λ j e.
        let same : is.0 ≡ j = omega arith in
        some ∙ is.2.second ∙ ap (zone_second z) same;
    first = λ e. absurd (omega arith);
    begun = (let r = is.1.reached is.0 refl in let under = r.1 in let s = is.2.second in let f = some in omega (arith, signed_arith));
  },
)

ends : (z : ZoneParts) (t : ℤ) → IsSecond t → (next : Option Transition) (until : ℤ) (k : ℕ) → IsPlace (HasTransition z) (zone_second z) t k
    → NextIs z k next → IfSome next (λ r. until ≡ r.second) → IfNone next (until ≡ pos 34_560_000_000_001) → EndsAt z t k until
ends z t in_range None until k place is some none = record {
  end = λ has. absurd (is has);
  last = λ no. none;
  ahead = (let s = none in omega (arith, signed_arith));
}
ends z t in_range (Some row) until k place is some none = record {
  end = λ has. some ∙ is.1.second;
  last = λ no. absurd (no is.0);
  ahead = (let over = place.ahead is.0 in let s = is.1.second in let f = some in omega (arith, signed_arith));
}

-- the interval from the last transition at or before a second up to the next one
pub interval_of : (z : ZoneParts) → IsZone z → (t : ℤ) → IsSecond t → (last next : Option Transition) (from until : ℤ) (found : Interval)
    → found.from ≡ from → found.until ≡ until → IsLastTransition z t last → IsNextTransition z t next → IsZoneType z t found.kind
    → IfSome last (λ r. from ≡ r.second) → IfNone last (from ≡ neg_ℤ (pos 34_560_000_000_000)) → IfSome next (λ r. until ≡ r.second)
    → IfNone next (until ≡ pos 34_560_000_000_001) → IsInterval z t found
interval_of z h t in_range last next from until found from_is until_is is_last is_next is_type some_last none_last some_next none_next =
    let b = begins z t in_range last from is_last some_last none_last in
    let n = next_is z t next is_next in
    let same_n : n.0 ≡ b.0 = place-unique (zone_runs z h) t n.0 b.0 n.1 b.1 in
    let same_t : is_type.0 ≡ b.0 = place-unique (zone_runs z h) t is_type.0 b.0 is_type.1 b.1 in
    let e = ends z t in_range next until b.0 b.1 (subst (λ (k : ℕ). NextIs z k next) same_n n.2) some_next none_next in
    let begun = b.2.begun in
    let ahead = e.ahead in
    record {
      place = b.0;
      is = b.1;
      kind = is_type.2 ∙ ap (zone_type z) same_t;
      begin = λ j s. from_is ∙ b.2.begin j s;
      first = λ s. from_is ∙ b.2.first s;
      end = λ has. until_is ∙ e.end has;
      last = λ no. until_is ∙ e.last no;
      within = (omega (arith, signed_arith), omega (arith, signed_arith));
    }

-- one more offset at its place
pub one_offset : (z : ZoneParts) (seconds room : List ℤ) (count : ℕ) (second o : ℤ) → count < length room → second ≡ get_or seconds count (pos 0)
    → IsZoneOffset z second o → ((i : ℕ) → i < count → IsZoneOffset z (get_or seconds i (pos 0)) (get_or room i (pos 0)))
    → (i : ℕ) → i < count + 1 → IsZoneOffset z (get_or seconds i (pos 0)) (get_or (set room count o) i (pos 0))
one_offset z seconds room count second o inside is now each i l = elim (cases_order i count) [
  | inl same ↦
      let here : get_or (set room count o) count (pos 0) ≡ o = get_or-set_same room count o (pos 0) inside in
      let there : IsZoneOffset z (get_or seconds count (pos 0)) (get_or (set room count o) count (pos 0)) =
      subst (λ (t : ℤ). IsZoneOffset z t (get_or (set room count o) count (pos 0))) is (subst (λ (v : ℤ). IsZoneOffset z second v) (sym here) now) in
      subst (λ (j : ℕ). IsZoneOffset z (get_or seconds j (pos 0)) (get_or (set room count o) j (pos 0))) (sym same) there
  | inr (inl lt) ↦
      let other : get_or (set room count o) i (pos 0) ≡ get_or room i (pos 0) = get_or-set_other room count i o (pos 0) (omega arith) in
      subst (λ (v : ℤ). IsZoneOffset z (get_or seconds i (pos 0)) v) (sym other) (each i lt)
  | inr (inr gt) ↦ absurd (omega arith)
]

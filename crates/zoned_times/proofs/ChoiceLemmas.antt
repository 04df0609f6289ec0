-- The choices of a wall clock.
use Rattle.std.proofs.Common.{◌≡◌, inl, inr, ℤ, ◌-ℤ◌, ◌≤ℤ◌, ◌<ℤ◌, Option, Some, None, Result, Ok, arith, sym, ap, subst}
use Rattle.std.proofs.lemmas.Int.{ints}
use Rattle.offset_times.specs.Local.{Local, instant_of, offset_nanos}
use Rattle.offset_times.specs.InstantLemmas.{shown_at-instant_of}
use Rattle.zones.specs.Zones.{ZoneParts}
use Rattle.zoned_times.specs.declared.gap.Gap.{Gap}
use Rattle.zoned_times.specs.declared.local_refusal.LocalRefusal.{LocalRefusal}
use Rattle.zoned_times.specs.declared.local_times.LocalTimes.{LocalTimes}
use Rattle.zoned_times.specs.declared.local_times.LocalTimes.TheVariants as local_times
use Rattle.zoned_times.specs.Choices.{answer_of, earlier_of, later_of, compatible_of, only_of}
use Rattle.zoned_times.specs.Laws.{IsEarliest, IsLatest, IsMovedBack, IsMovedForward, Fits, ChoicesAreRight}
use Rattle.zoned_times.specs.Zoned.{HasOffset, ShownIn, IsOfZone, Shows, IsGap, AreTimesOf}
use Rattle.zoned_times.proofs.LawLemmas.{shown-instant}

-- an answer is a date-time that the zone shows
answered : (z : ZoneParts) (i : ℤ) (shown : Option Local) (at : Local) → ShownIn z i shown → answer_of shown ≡ Ok at → IsOfZone z at × (instant_of at ≡ i)
answered z i None at h e = absurd (let none : answer_of None ≡ Ok at = e in cc)
answered z i (Some v) at h e =
    let same : v ≡ at = cc in
    let instant = shown-instant z i v h in
    let has : HasOffset z (instant_of v) v.offset =
    (let there = subst (λ (j : ℤ). HasOffset z j h.0) (sym instant) h.1 in
    subst (HasOffset z (instant_of v)) (sym (ap (λ (u : Local). u.offset) h.2.1)) there) in
    subst (λ (u : Local). IsOfZone z u × (instant_of u ≡ i)) same (has, instant)

moved_back : (z : ZoneParts) (w : ℤ) (gap : Gap) (at : Local) → IsGap z w gap → instant_of at ≡ w -ℤ offset_nanos gap.after → IsMovedBack w gap at
moved_back z w gap at is e =
    let wall = shown_at-instant_of at in
    let over = is.not_over in
    record {
      before = omega (arith, ints);
      shifted = λ offset. omega (arith, ints);
    }

moved_forward : (z : ZoneParts) (w : ℤ) (gap : Gap) (at : Local) → IsGap z w gap → instant_of at ≡ w -ℤ offset_nanos gap.before
    → IsMovedForward w gap at
moved_forward z w gap at is e =
    let wall = shown_at-instant_of at in
    let begun = is.begun in
    record {
      after = omega (arith, ints);
      shifted = λ offset. omega (arith, ints);
    }

-- the instants of equal date-times
at_most : (u v : Local) → u ≡ v → instant_of u ≤ℤ instant_of v
at_most u v e = let same = ap instant_of e in omega (arith, ints)

taken : (u v : Local) → (let r : Result Local LocalRefusal = Ok u in r ≡ Ok v) → u ≡ v
taken u v e = cc

one : (z : ZoneParts) (w : ℤ) (v at : Local) → v ≡ at → Shows z w v × ((u : Local) → Shows z w u → u ≡ v)
    → Shows z w at × ((u : Local) → Shows z w u → u ≡ at)
one z w v at e h = subst (λ (x : Local). Shows z w x × ((u : Local) → Shows z w u → u ≡ x)) e h

earlier_right : (z : ZoneParts) (w : ℤ) (times : LocalTimes) (at : Local) → AreTimesOf z w times → earlier_of times ≡ Ok at
    → IsOfZone z at × Fits times (Shows z w at × IsEarliest z w at) (λ gap. IsMovedBack w gap at)
earlier_right z w (local_times.Single v) at h e =
    let is = one z w v at (taken v at e) h in
    (is.0.1, (is.0, λ u shows. at_most at u (sym (is.1 u shows))))
earlier_right z w (local_times.Gap gap earlier later) at h e =
    let is = answered z (w -ℤ offset_nanos gap.after) earlier at h.2 e in
    (is.0, moved_back z w gap at h.1 is.1)
earlier_right z w (local_times.Fold v u) at h e =
    let same = taken v at e in
    let less = subst (λ (x : Local). instant_of x <ℤ instant_of u) same h.0 in
    let is = subst (Shows z w) same h.1 in (
      is.1,
      (
        is,
        λ x shows. elim (h.3 x shows) [
          | inl first ↦ (let a = ap instant_of first in let b = ap instant_of same in omega (arith, ints))
          | inr second ↦ (let a = ap instant_of second in omega (arith, ints))
        ],
      ),
    )

later_right : (z : ZoneParts) (w : ℤ) (times : LocalTimes) (at : Local) → AreTimesOf z w times → later_of times ≡ Ok at
    → IsOfZone z at × Fits times (Shows z w at × IsLatest z w at) (λ gap. IsMovedForward w gap at)
later_right z w (local_times.Single v) at h e =
    let is = one z w v at (taken v at e) h in
    (is.0.1, (is.0, λ u shows. at_most u at (is.1 u shows)))
later_right z w (local_times.Gap gap earlier later) at h e =
    let is = answered z (w -ℤ offset_nanos gap.before) later at h.3 e in
    (is.0, moved_forward z w gap at h.1 is.1)
later_right z w (local_times.Fold v u) at h e =
    let same = taken u at e in
    let less = subst (λ (x : Local). instant_of v <ℤ instant_of x) same h.0 in
    let is = subst (Shows z w) same h.2 in (
      is.1,
      (
        is,
        λ x shows. elim (h.3 x shows) [
          | inl first ↦ (let a = ap instant_of first in omega (arith, ints))
          | inr second ↦ (let a = ap instant_of second in let b = ap instant_of same in omega (arith, ints))
        ],
      ),
    )

compatible_right : (z : ZoneParts) (w : ℤ) (times : LocalTimes) (at : Local) → AreTimesOf z w times → compatible_of times ≡ Ok at
    → IsOfZone z at × Fits times (Shows z w at × IsEarliest z w at) (λ gap. IsMovedForward w gap at)
compatible_right z w (local_times.Single v) at h e = earlier_right z w (local_times.Single v) at h e
compatible_right z w (local_times.Gap gap earlier later) at h e = later_right z w (local_times.Gap gap earlier later) at h e
compatible_right z w (local_times.Fold v u) at h e = earlier_right z w (local_times.Fold v u) at h e

only_right : (z : ZoneParts) (w : ℤ) (times : LocalTimes) (at : Local) → AreTimesOf z w times → only_of times ≡ Ok at
    → Shows z w at × ((v : Local) → Shows z w v → v ≡ at)
only_right z w (local_times.Single v) at h e = one z w v at (taken v at e) h
only_right z w (local_times.Gap gap earlier later) at h e = absurd cc
only_right z w (local_times.Fold v u) at h e = absurd cc

single_right : (z : ZoneParts) (w : ℤ) (times : LocalTimes) (at : Local) → AreTimesOf z w times → Shows z w at
    → ((v : Local) → Shows z w v → v ≡ at) → only_of times ≡ Ok at
single_right z w (local_times.Single v) at h shows one = ap Ok (one v h.0)
single_right z w (local_times.Gap gap earlier later) at h shows one = absurd (h.0 at shows)
single_right z w (local_times.Fold v u) at h shows one =
    let a = ap instant_of (one v h.1) in
    let b = ap instant_of (one u h.2) in
    let less = h.0 in
    absurd (omega (arith, ints))

pub choices : ChoicesAreRight
choices = record {
  earlier = earlier_right;
  later = later_right;
  compatible = compatible_right;
  only = only_right;
  single = single_right;
}

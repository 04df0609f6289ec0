-- The laws of sorts.
use Rattle.std.proofs.Common.{◌≡◌, ℕ, ◌+◌, ◌<◌, inl, inr, false, List, [], ◌∷◌, ℤ, length, refl, subst, sym, ◌∙◌, arith, Option, Some, None, slice_index_or}
use Rattle.std.proofs.lemmas.Bool.{cases_Bool}
use Rattle.std.proofs.lemmas.Bool.Decides.{nat_tests}
use Rattle.std.specs.Option.{option_cmp}
use Rattle.std.specs.Ordering.{int_cmp, is_lt}
use Rattle.line_merges.specs.Instants.{is_before}
use Rattle.line_merges.specs.Lines.{Line}
use Rattle.line_merges.specs.SortLaws.{AreNear, IsWithin, NoneLateFrom}
use Rattle.line_merges.specs.Sorts.{IsInOrderOf, far_after, far_after_lines, first_distance, first_lateness, is_far, is_late}
use Rattle.line_merges.specs.Sorts.{late_after, late_after_lines, later_of}
use Rattle.line_merges.specs.declared.sorts.Distance.{Distance}
use Rattle.line_merges.specs.declared.sorts.Held.{Held}
use Rattle.line_merges.specs.declared.sorts.Lateness.{Lateness}

-- the order of instants is that by which lines are sorted
less-before : (first second : Option ℤ) → is_lt (option_cmp int_cmp first second) ≡ is_before first second
less-before None None = refl
less-before None (Some second) = refl
less-before (Some first) None = refl
less-before (Some first) (Some second) = grind (arith, nat_tests)

pub in_order : (held out : List Held) → IsInOrderOf held out → (k : ℕ) (line : Held) → k + 1 < length out
    → is_before (slice_index_or out (k + 1) line).instant (slice_index_or out k line).instant ≡ false
in_order held out is k line low =
    sym (less-before (slice_index_or out (k + 1) line).instant (slice_index_or out k line).instant) ∙ is.order k line (omega arith) low

-- what is not late by two instants is not late by the later of them
none_late-later : (window : ℤ) (latest instant : Option ℤ) (lines : List Line) → NoneLateFrom window latest lines → NoneLateFrom window instant lines
    → NoneLateFrom window (later_of latest instant) lines
none_late-later window latest instant lines a b =
    elim (cases_Bool (is_before latest instant)) [
      | inl t ↦ rw t b
      | inr t ↦ rw t a
    ]

record Unchanged (old new : Lateness) : Type 0 where
  count : new.count ≡ old.count
  first : new.first ≡ old.first

none_late : (lateness : Lateness) (lines : List Line) → NoneLateFrom lateness.window lateness.latest lines → IsWithin lateness.window lines
    → Unchanged lateness (late_after_lines lateness lines)
unfolding late_after_lines
none_late lateness [] from within = record { count = refl; first = refl }
none_late lateness (line ∷ lines) from within =
    let next : late_after lateness line.number line.instant ≡ record lateness { latest = later_of lateness.latest line.instant } = rw from.0 refl in
    let rest = none_late (record lateness { latest = later_of lateness.latest line.instant }) lines
    (none_late-later lateness.window lateness.latest line.instant lines from.1 within.0) within.1 in
    rw next (record { count = rest.count; first = rest.first })

none_from_none : (window : ℤ) (lines : List Line) → NoneLateFrom window None lines
none_from_none window [] = tt
none_from_none window (line ∷ lines) = (refl, none_from_none window lines)

pub none : (window : ℤ) (lines : List Line) → IsWithin window lines
    → ((late_after_lines (first_lateness window) lines).count ≡ 0) × ((late_after_lines (first_lateness window) lines).first ≡ None)
none window lines within = let so = none_late (first_lateness window) lines (none_from_none window lines) within in (so.count, so.first)

-- the count of late lines does not shrink
count_grows : (lateness : Lateness) (lines : List Line) → (late_after_lines lateness lines).count ≡ 0 → lateness.count ≡ 0
unfolding late_after_lines
count_grows lateness [] zero = zero
count_grows lateness (line ∷ lines) zero =
    let so = count_grows (late_after lateness line.number line.instant) lines zero in
    elim (cases_Bool (is_late lateness.window lateness.latest line.instant)) [
      | inl t ↦ absurd (omega (arith, rw t at so))
      | inr t ↦ rw t at so
    ]

-- what is not late by the later of two instants is not late by each of them
no_instant : (window : ℤ) (latest : Option ℤ) → is_late window latest None ≡ false
no_instant window None = refl
no_instant window (Some latest) = refl

later-none_late : (window : ℤ) (latest instant own : Option ℤ) → is_late window (later_of latest instant) own ≡ false
    → (is_late window latest own ≡ false) × (is_late window instant own ≡ false)
later-none_late window latest instant None h = (no_instant window latest, no_instant window instant)
later-none_late window None None (Some own) h = (refl, refl)
later-none_late window None (Some at) (Some own) h = (refl, h)
later-none_late window (Some latest) None (Some own) h = (h, refl)
later-none_late window (Some latest) (Some at) (Some own) h = (grind (arith, nat_tests), grind (arith, nat_tests))

later-none_from : (window : ℤ) (latest instant : Option ℤ) (lines : List Line) → NoneLateFrom window (later_of latest instant) lines
    → NoneLateFrom window latest lines × NoneLateFrom window instant lines
later-none_from window latest instant [] h = (tt, tt)
later-none_from window latest instant (line ∷ lines) h =
    let first = later-none_late window latest instant line.instant h.0 in
    let rest = later-none_from window latest instant lines h.1 in
    ((first.0, rest.0), (first.1, rest.1))

all_within : (lateness : Lateness) (lines : List Line) → (late_after_lines lateness lines).count ≡ 0
    → NoneLateFrom lateness.window lateness.latest lines × IsWithin lateness.window lines
unfolding late_after_lines
all_within lateness [] zero = (tt, tt)
all_within lateness (line ∷ lines) zero =
    let so = count_grows (late_after lateness line.number line.instant) lines zero in
    elim (cases_Bool (is_late lateness.window lateness.latest line.instant)) [
      | inl t ↦ absurd (omega (arith, rw t at so))
      | inr t ↦
          let next : late_after lateness line.number line.instant ≡ record lateness { latest = later_of lateness.latest line.instant } = rw t refl in
          let zero_then = subst (λ (z : Lateness). (late_after_lines z lines).count ≡ 0) next zero in
          let rest = all_within (record lateness { latest = later_of lateness.latest line.instant }) lines zero_then in
          let both = later-none_from lateness.window lateness.latest line.instant lines rest.0 in
          ((t, both.0), (both.1, rest.1))
    ]

pub within : (window : ℤ) (lines : List Line) → (late_after_lines (first_lateness window) lines).count ≡ 0 → IsWithin window lines
within window lines zero = (all_within (first_lateness window) lines zero).1

-- ---- the distance from their places

far_none : (distance : Distance) (before : ℕ) (lines : List Held) → AreNear distance.most before lines → far_after_lines distance before lines ≡ distance
unfolding far_after_lines
far_none distance before [] near = refl
far_none distance before (line ∷ lines) near =
    let same : far_after distance line.number (before + 1) ≡ distance = rw near.0 refl in
    rw same (far_none distance (before + 1) lines near.1)

pub near_none : (most : ℕ) (out : List Held) → AreNear most 0 out
    → ((far_after_lines (first_distance most) 0 out).count ≡ 0) × ((far_after_lines (first_distance most) 0 out).first ≡ None)
near_none most out near = let same = far_none (first_distance most) 0 out near in rw same (refl, refl)

-- the count of far lines does not shrink
far_grows : (distance : Distance) (before : ℕ) (lines : List Held) → (far_after_lines distance before lines).count ≡ 0 → distance.count ≡ 0
unfolding far_after_lines
far_grows distance before [] zero = zero
far_grows distance before (line ∷ lines) zero =
    let so = far_grows (far_after distance line.number (before + 1)) (before + 1) lines zero in
    elim (cases_Bool (is_far distance.most line.number (before + 1))) [
      | inl t ↦ absurd (omega (arith, rw t at so))
      | inr t ↦ rw t at so
    ]

all_near : (distance : Distance) (before : ℕ) (lines : List Held) → (far_after_lines distance before lines).count ≡ 0
    → AreNear distance.most before lines
unfolding far_after_lines
all_near distance before [] zero = tt
all_near distance before (line ∷ lines) zero =
    let so = far_grows (far_after distance line.number (before + 1)) (before + 1) lines zero in
    elim (cases_Bool (is_far distance.most line.number (before + 1))) [
      | inl t ↦ absurd (omega (arith, rw t at so))
      | inr t ↦
          let same : far_after distance line.number (before + 1) ≡ distance = rw t refl in
          (t, all_near distance (before + 1) lines (subst (λ (z : Distance). (far_after_lines z (before + 1) lines).count ≡ 0) same zero))
    ]

pub near : (most : ℕ) (out : List Held) → (far_after_lines (first_distance most) 0 out).count ≡ 0 → AreNear most 0 out
near most out zero = all_near (first_distance most) 0 out zero

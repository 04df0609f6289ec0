-- Rules that keep one kind of local time all year.
use Rattle.std.proofs.Common.{◌≡◌, inl, inr, ℕ, ◌+◌, ◌-◌, true, false, Bool, ℤ, pos, ◌+ℤ◌, ◌-ℤ◌, ◌*ℤ◌, ◌≤ℤ◌, ◌<ℤ◌, refl, sym, ap, ◌∙◌, arith}
use Rattle.std.proofs.lemmas.Bool.Decides.{leb_tells}
use borrow.Author.Differences.{le-true, le-false}
use Rattle.calendar_values.specs.SignedArith.{signed_arith, one_part}
use Rattle.zones.specs.declared.cycle.Cycle.{Cycle}
use Rattle.zones.specs.declared.time_type.TimeType.{TimeType}
use Rattle.zones.specs.Clocks.{IsPlace}
use Rattle.zones.specs.Cycles.{Always, moment_at, cycle_second, cycle_type, second_at, is_first, moment_year, KeepsFirst, KeepsSecond, IsCycleType}
use Rattle.zones.specs.Laws.{OneTypeHolds}
use Rattle.zones.specs.Seconds.{IsSecond}
use Rattle.zones.proofs.CycleLemmas.{far_back, first_type, other_type}

-- a second lies after the moment before its place, and before the one at it
about : (c : Cycle) (t : ℤ) (p : ℕ) → IsSecond t → IsPlace Always (second_at c) t p → (cycle_second c (moment_at p -ℤ pos 1) ≤ℤ t) ×
    (t <ℤ cycle_second c (moment_at p))
about c t p in_range place = elim (leb_tells p 0) [
  | inl none ↦
      let far = far_back c (moment_at p) (omega (arith, signed_arith)) in
      let ahead = place.ahead tt in
      absurd (omega (arith, signed_arith))
  | inr some ↦
      let e : p - 1 + 1 ≡ p = omega arith in
      let m : moment_at (p - 1) ≡ moment_at p -ℤ pos 1 = omega (arith, signed_arith) in
      let s = ap (cycle_second c) m in
      let last = (place.reached (p - 1) e).1 in
      (omega (arith, signed_arith), place.ahead tt)
]

first_kept : (c : Cycle) → KeepsFirst c → (t : ℤ) (found : TimeType) → IsSecond t → IsCycleType c t found → found ≡ c.after_first
first_kept c keeps t found in_range h = h.2 ∙ choose (is_first m) refl where
  m : ℤ
  m = moment_at h.0

  choose : (b : Bool) → is_first m ≡ b → cycle_type c m ≡ c.after_first
  choose false e = other_type c m e
  choose true e =
      let le = le-true m (pos 2 *ℤ moment_year m) e in
      let y = moment_year m -ℤ pos 1 in
      let before : pos 2 *ℤ y +ℤ pos 1 ≡ m -ℤ pos 1 = omega (arith, signed_arith, one_part m) in
      let at : pos 2 *ℤ y +ℤ pos 1 +ℤ pos 1 ≡ m = omega (arith, signed_arith, one_part m) in
      let same = keeps y in
      let s0 = ap (cycle_second c) before in
      let s1 = ap (cycle_second c) at in
      let near = about c t h.0 in_range h.1 in
      let n0 = near.0 in
      let n1 = near.1 in
      absurd (omega (arith, signed_arith))

second_kept : (c : Cycle) → KeepsSecond c → (t : ℤ) (found : TimeType) → IsSecond t → IsCycleType c t found → found ≡ c.after_second
second_kept c keeps t found in_range h = h.2 ∙ choose (is_first m) refl where
  m : ℤ
  m = moment_at h.0

  choose : (b : Bool) → is_first m ≡ b → cycle_type c m ≡ c.after_second
  choose true e = first_type c m e
  choose false e =
      let lt = le-false m (pos 2 *ℤ moment_year m) e in
      let y = moment_year m in
      let before : pos 2 *ℤ y +ℤ pos 0 ≡ m -ℤ pos 1 = omega (arith, signed_arith, one_part m) in
      let at : pos 2 *ℤ y +ℤ pos 0 +ℤ pos 1 ≡ m = omega (arith, signed_arith, one_part m) in
      let same = keeps y in
      let s0 = ap (cycle_second c) before in
      let s1 = ap (cycle_second c) at in
      let near = about c t h.0 in_range h.1 in
      let n0 = near.0 in
      let n1 = near.1 in
      absurd (omega (arith, signed_arith))

pub holds : OneTypeHolds
holds c kept (inl h) t found in_range is = first_kept c h.0 t found in_range is ∙ sym h.1
holds c kept (inr h) t found in_range is = second_kept c h.0 t found in_range is ∙ sym h.1

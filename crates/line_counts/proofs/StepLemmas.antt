-- The number of steps of one length from an instant up to another.
use Rattle.std.proofs.Common.{◌≡◌, inl, inr, ℕ, zero, suc, ◌+◌, ◌-◌, ◌/◌, ◌<◌, ◌≤◌, true, false, refl, sym, ap, subst, ◌∙◌, arith, ℤ, pos, ◌+ℤ◌, ◌≤ℤ◌}
use Rattle.std.proofs.Math.Nat.{add-div_left, div-eq_of_lt, div-le_of_le-mul}
use Rattle.std.proofs.lemmas.Bool.Decides.{nat_tests}
use Rattle.std.proofs.lemmas.Bool.{cases_lt}
use Rattle.std.proofs.lemmas.Int.{ints}
use Rattle.std.specs.Prelude.{int_lt}
use Rattle.calendar_values.specs.WallClock.{IsWallClock}
use Rattle.plain_times.specs.Sums.{nearest_wall_clock}
use Rattle.line_counts.specs.Counting.{empty_count, most}
use Rattle.line_counts.specs.Steps.{step_of}

count-none : (next : ℤ → ℤ) (n : ℕ) (from to : ℤ) → int_lt from to ≡ false → empty_count next n from to ≡ 0
unfolding empty_count
count-none next zero from to e = refl
count-none next (suc n) from to e = rw e refl

count-one : (next : ℤ → ℤ) (n : ℕ) (from to : ℤ) → int_lt from to ≡ true → empty_count next (suc n) from to ≡ suc (empty_count next n (next from) to)
unfolding empty_count
count-one next n from to e = rw e refl

step-past : (w to : ℤ) → IsWallClock to → to ≤ℤ w → int_lt (nearest_wall_clock w) to ≡ false
unfolding nearest_wall_clock
step-past w to h e = grind (arith, ints, nat_tests)

step-in : (w : ℤ) → IsWallClock w → nearest_wall_clock w ≡ w
unfolding nearest_wall_clock
step-in w h = grind (arith, ints)

is_later : (from to : ℤ) (d : ℕ) → to ≡ from +ℤ pos (suc d) → int_lt from to ≡ true
is_later from to d e = grind (arith, ints, nat_tests)

-- the steps up to an instant that is later
steps-later : (u d n : ℕ) (from to : ℤ) → 0 < u → IsWallClock from → IsWallClock to → to ≡ from +ℤ pos (suc d) → d / u + 1 ≤ n
    → empty_count (step_of u) n from to ≡ d / u + 1
steps-later u d zero from to some low high e few = absurd (omega (arith, few))
steps-later u d (suc n) from to some low high e few =
    let rest : empty_count (step_of u) n (step_of u from) to ≡ d / u =
    elim (cases_lt d u) [
      | inl last ↦
          let none : d / u ≡ 0 = div-eq_of_lt last in
          let past : to ≤ℤ (from +ℤ pos u) = omega (arith, ints) in
          count-none (step_of u) n (step_of u from) to (step-past (from +ℤ pos u) to high past) ∙ sym none
      | inr more ↦
          let left : ℕ = d - u in
          let whole : u + left ≡ d = omega arith in
          let one : d / u ≡ left / u + 1 = subst (λ (z : ℕ). z / u ≡ left / u + 1) whole (add-div_left left some) in
          let within : IsWallClock (from +ℤ pos u) = (omega (arith, ints, low.0), omega (arith, ints, high.1)) in
          let next : step_of u from ≡ from +ℤ pos u = step-in (from +ℤ pos u) within in
          let apart : to ≡ (from +ℤ pos u) +ℤ pos (suc left) = omega (arith, ints) in
          ap (λ (z : ℤ). empty_count (step_of u) n z to) next
          ∙ steps-later u left n (from +ℤ pos u) to some within high apart (omega (arith, few, one)) ∙ sym one
    ] in
    count-one (step_of u) n from to (is_later from to d e) ∙ ap suc rest ∙ omega arith

-- the same by the nanoseconds up to both instants, from one before them
pub steps-none : (u first last : ℕ) (from to : ℤ) → pos first ≡ from +ℤ pos 100_000_000_000_000_000_000_000
    → pos last ≡ to +ℤ pos 100_000_000_000_000_000_000_000 → last ≤ first → 0 ≡ empty_count (step_of u) most from to
steps-none u first last from to f l e =
    let less : to ≤ℤ from = omega (arith, ints) in
    let none : int_lt from to ≡ false = grind (arith, ints, nat_tests) in
    omega (arith, count-none (step_of u) most from to none)

pub steps-some : (u first last : ℕ) (from to : ℤ) → 60000000000 ≤ u → pos first ≡ from +ℤ pos 100_000_000_000_000_000_000_000
    → pos last ≡ to +ℤ pos 100_000_000_000_000_000_000_000 → first < last → IsWallClock from → IsWallClock to
    → (last - first - 1) / u + 1 ≤ most → (last - first - 1) / u + 1 ≡ empty_count (step_of u) most from to
steps-some u first last from to some f l e low high few =
    let d : ℕ = last - first - 1 in
    let apart : to ≡ from +ℤ pos (suc d) = omega (arith, ints) in
    omega (arith, steps-later u d most from to (omega (arith, some)) low high apart few)

pub few_steps : (nanos u : ℕ) → 60000000000 ≤ u → nanos ≤ 200_000_000_000_000_000_000_000 → nanos / u ≤ 4_000_000_000_000
few_steps nanos u some most_nanos = div-le_of_le-mul u (omega arith)

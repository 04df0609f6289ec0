-- The values of checked and saturating sums, in range and out of range.
use Rattle.std.proofs.Common.{◌≡◌, ◌↔◌, refl, sym, ap, ◌∙◌, Bool, true, false, cond, not, IsTrue, arith, ℤ, pos, neg_ℤ}
use Rattle.std.proofs.Common.{◌+ℤ◌, ◌-ℤ◌, ◌≤ℤ◌, ◌<ℤ◌, Option, Some, None, SomeIff}
use Rattle.std.proofs.lemmas.Int.{ints, by_lt_z}
use Rattle.calendar_values.specs.WallClock.{first_wall_clock, last_wall_clock, IsWallClock}
use Rattle.plain_times.specs.ReplacementLemmas.{replaced}
use Rattle.plain_times.specs.Sums.{wall_clock_if_any, nearest_wall_clock, IsSaturatingSum, IsSaturatingDifference}

pub wall_clock_if_any-in : (w : ℤ) → IsWallClock w → wall_clock_if_any w ≡ Some w
unfolding wall_clock_if_any
wall_clock_if_any-in w h = grind (arith, ints)

pub wall_clock_if_any-before : (w : ℤ) → w <ℤ first_wall_clock → wall_clock_if_any w ≡ None
unfolding wall_clock_if_any
wall_clock_if_any-before w h = grind (arith, ints)

pub wall_clock_if_any-after : (w : ℤ) → last_wall_clock <ℤ w → wall_clock_if_any w ≡ None
unfolding wall_clock_if_any
wall_clock_if_any-after w h = grind (arith, ints)

-- the rule set for callers of `run` or `chain` with known calls: sums, and replacements of a date or a time of day
pub ruleset known_calls = (wall_clock_if_any-in, wall_clock_if_any-before, wall_clock_if_any-after, replaced)

-- a result that is Some of the sum exactly if the sum is in range is the checked sum
pub wall_clock_if_any-SomeIff : (r : Option ℤ) (w : ℤ) → SomeIff r (IsWallClock w) w → r ≡ wall_clock_if_any w
unfolding wall_clock_if_any
wall_clock_if_any-SomeIff None w h =
    by_lt_z w first_wall_clock (λ lt. sym (wall_clock_if_any-before w lt))
    (λ low. by_lt_z last_wall_clock w (λ gt. sym (wall_clock_if_any-after w gt)) (λ high. absurd (h (low, high))))
wall_clock_if_any-SomeIff (Some x) w h = ap Some h.1 ∙ sym (wall_clock_if_any-in w h.0)

nearest_wall_clock-in : (w : ℤ) → IsWallClock w → nearest_wall_clock w ≡ w
unfolding nearest_wall_clock
nearest_wall_clock-in w h = grind (arith, ints)

nearest_wall_clock-before : (w : ℤ) → w <ℤ first_wall_clock → nearest_wall_clock w ≡ first_wall_clock
unfolding nearest_wall_clock
nearest_wall_clock-before w h = grind (arith, ints)

nearest_wall_clock-after : (w : ℤ) → last_wall_clock <ℤ w → nearest_wall_clock w ≡ last_wall_clock
unfolding nearest_wall_clock
nearest_wall_clock-after w h = grind (arith, ints)

-- a sum in range is the saturating sum
pub IsSaturatingSum-in : (w d v : ℤ) → IsWallClock w → IsWallClock (w +ℤ d) → v ≡ w +ℤ d → IsSaturatingSum w d v
IsSaturatingSum-in w d v h sum e = omega (arith, ints, nearest_wall_clock-in (w +ℤ d) sum)

-- out of range, the saturating sum is the first wall clock if the duration is negative, and the last otherwise
pub IsSaturatingSum-end : (w d v : ℤ) (is_negative : Bool) → IsWallClock w → (IsWallClock (w +ℤ d) → ⊥)
    → (IsTrue is_negative ↔ (d <ℤ pos 0)) → v ≡ cond is_negative first_wall_clock last_wall_clock → IsSaturatingSum w d v
IsSaturatingSum-end w d v true h not sign e =
    let negative : d <ℤ pos 0 = sign.0 refl in
    let before : (w +ℤ d) <ℤ first_wall_clock =
    by_lt_z (w +ℤ d) first_wall_clock (λ lt. lt) (λ from_first. absurd (not (from_first, omega (arith, ints)))) in
    omega (arith, ints, nearest_wall_clock-before (w +ℤ d) before)
IsSaturatingSum-end w d v false h not sign e =
    let positive : pos 0 ≤ℤ d = by_lt_z d (pos 0) (λ lt. let no : false ≡ true = sign.1 lt in cc) (λ ge. ge) in
    let after : last_wall_clock <ℤ (w +ℤ d) =
    by_lt_z last_wall_clock (w +ℤ d) (λ lt. lt) (λ to_last. absurd (not (omega (arith, ints), to_last))) in
    omega (arith, ints, nearest_wall_clock-after (w +ℤ d) after)

-- a saturating difference is the saturating sum with the negated duration
IsSaturatingDifference-sum : (w d v : ℤ) → IsSaturatingSum w (neg_ℤ d) v → IsSaturatingDifference w d v
IsSaturatingDifference-sum w d v sum = record {
  value = sum.value;
  exact = λ inside. sum.exact inside;
  at_the_end = λ above. sum.at_the_end above;
  at_the_beginning = λ below. sum.at_the_beginning below;
  not_before = λ earlier. sum.not_before (omega (arith, ints));
  not_after = λ later. sum.not_after (omega (arith, ints));
  not_above = λ earlier. sum.not_above (omega (arith, ints));
  not_below = λ later. sum.not_below (omega (arith, ints));
}

pub IsSaturatingDifference-in : (w d v : ℤ) → IsWallClock w → IsWallClock (w -ℤ d) → v ≡ w -ℤ d → IsSaturatingDifference w d v
IsSaturatingDifference-in w d v h difference e = IsSaturatingDifference-sum w d v (IsSaturatingSum-in w (neg_ℤ d) v h difference e)

pub IsSaturatingDifference-end : (w d v : ℤ) (is_negative : Bool) → IsWallClock w → (IsWallClock (w -ℤ d) → ⊥)
    → (IsTrue is_negative ↔ (d <ℤ pos 0)) → v ≡ cond (not is_negative) first_wall_clock last_wall_clock → IsSaturatingDifference w d v
IsSaturatingDifference-end w d v true h outside sign e =
    let negative : d <ℤ pos 0 = sign.0 refl in
    IsSaturatingDifference-sum w d v (IsSaturatingSum-end w (neg_ℤ d) v false h outside
    ((λ no. cc), (λ lt. let none : ⊥ = omega (arith, ints) in absurd none)) e)
IsSaturatingDifference-end w d v false h outside sign e =
    let positive : pos 0 <ℤ d = by_lt_z (pos 0) d (λ lt. lt) (λ zero. absurd (outside (
    by_lt_z d (pos 0) (λ lt. let no : false ≡ true = sign.1 lt in cc) (λ ge. omega (arith, ints))))) in
    IsSaturatingDifference-sum w d v (IsSaturatingSum-end w (neg_ℤ d) v true h outside
    ((λ yes. omega (arith, ints)), (λ lt. refl)) e)

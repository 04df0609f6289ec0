use Rattle.std.proofs.Common.{rules, arith, sym, ◌≡◌, ◌≤◌, ◌*◌, Some, None}
use Rattle.std.proofs.Math.Nat.{mul-le-mul_right}
use Rattle.rfc3339.specs.Reading.{digit_at}
use Rattle.format_descriptions.proofs.DigitLemmas.{counted_first, counted_next, counted_none, counted_last}
use Rattle.format_descriptions.proofs.fractions.read_digits.Goals as goal

pub returns-in_default-clause-value : goal.returns-in_default-clause-value
returns-in_default-clause-value c =
    let none : None ≡ digit_at c.loop-left.rest.now = search rules in
    sym (counted_none _ _ _ _ _ (omega (arith, c.loop-left-test.true)) none c.loop-left.invariant.value)

pub loop-left-init : goal.loop-left-init
loop-left-init c = record { value = counted_first c.args.count c.args.unit c.args.text.now; below = omega arith; shorter = omega arith }

pub loop-left-preserved : goal.loop-left-preserved
loop-left-preserved c =
    let is : Some (c.in-Some.digit, c.in-Some.more.now) ≡ digit_at c.loop-left.rest.now = search rules in
    let most : c.in-Some.digit * c.loop-left.unit ≤ 9 * c.loop-left.unit = grind (arith, mul-le-mul_right) in
    record {
      value = counted_next _ _ _ _ _ _ _ (omega (arith, c.loop-left-test.true)) is c.loop-left.invariant.value;
      below = omega (arith, most, c.loop-left.invariant.below);
      shorter = omega (arith, c.in-Some.ensures.shorter, c.loop-left.invariant.shorter);
    }

pub returns-clause-value : goal.returns-clause-value
returns-clause-value c = sym (counted_last _ _ _ _ _ (omega (arith, c.loop-left-test.false)) c.loop-left.invariant.value)

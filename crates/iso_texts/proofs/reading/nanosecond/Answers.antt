use Rattle.std.proofs.Common.{rules, arith, sym, ◌≤◌, ◌*◌}
use Rattle.std.proofs.Math.Nat.{mul-le-mul_right}
use Rattle.rfc3339.specs.FieldDigitLemmas.{loop_step, loop_end}
use Rattle.iso_texts.proofs.reading.nanosecond.Goals as goal

pub loop-unit-preserved : goal.loop-unit-preserved
loop-unit-preserved c =
    let most : c.in-Some.digit * c.loop-unit.unit ≤ 9 * c.loop-unit.unit = grind (arith, mul-le-mul_right) in
    record { value = loop_step _ _ _ _ _ _ (sym c.in-Some.ensures.value) c.loop-unit.invariant.value; room = omega arith; below = omega arith }

pub returns-in_default-clause-value : goal.returns-in_default-clause-value
returns-in_default-clause-value c = loop_end _ _ _ _ (search rules) c.loop-unit.invariant.value

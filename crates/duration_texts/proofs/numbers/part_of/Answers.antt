use Rattle.std.proofs.Common.{arith, ◌∙◌, ◌-◌, ◌+◌, ◌*◌}
use Rattle.duration_texts.proofs.NumberLemmas.{part_of-before, part_of-ends, part_of-bound, tenth-whole}
use Rattle.duration_texts.proofs.numbers.part_of.Goals as goal

pub returns-then-sum-ne0-clause-value : goal.returns-then-sum-ne0-clause-value
returns-then-sum-ne0-clause-value c =
    part_of-ends c.args.unit c.loop-k.k c.loop-k.part c.saturating_sub.result c.args.digits.now 0 c.loop-k-test.true c.loop-k.invariant.within
    c.loop-k.invariant.value c.saturating_sub.ensures c.if-sum-ne0.true

pub loop-k-preserved : goal.loop-k-preserved
loop-k-preserved c =
    let byte = c.type_inv.digits (c.loop-k.k - 1) in
    record {
      value =
          part_of-before c.args.unit c.loop-k.k c.loop-k.part c.saturating_sub.result c.args.digits.now 0 c.loop-k-test.true c.loop-k.invariant.within
          c.loop-k.invariant.value c.saturating_sub.ensures
          ∙ tenth-whole (c.saturating_sub.result * c.args.unit + c.loop-k.part) c.if-sum-ne0.false;
      bound = part_of-bound c.args.unit c.loop-k.part c.saturating_sub.result c.saturating_sub.type_inv
          (omega (arith, byte, c.saturating_sub.ensures)) c.loop-k.invariant.bound;
      within = omega (arith, c.loop-k.invariant.within);
    }

use Rattle.std.proofs.Common.{◌∙◌, arith}
use Rattle.line_merges.proofs.SortLemmas.{far-all, far-more}
use Rattle.line_merges.proofs.sorts.distance_of.Goals as goal

pub lines-preserved : goal.lines-preserved
lines-preserved c = record {
  within = omega (arith, c.lines-test.true);
  rest = rw c.after-distance.ensures (far-more c.args.held.now c.lines.distance c.lines.place _ c.lines-test.true) ∙ c.lines.invariant.rest;
}

pub returns : goal.returns
returns c = far-all c.args.held.now c.lines.distance c.lines.place (omega (arith, c.lines-test.false)) ∙ c.lines.invariant.rest

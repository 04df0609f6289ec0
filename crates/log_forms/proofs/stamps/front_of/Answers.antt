use Rattle.std.proofs.Common.{arith}
use Rattle.std.proofs.lemmas.List.{length-take}
use Rattle.log_forms.proofs.FrontLemmas.{front_short}
use Rattle.log_forms.proofs.stamps.front_of.Goals as goal

pub slice_bounds-result-end : goal.slice_bounds-result-end
slice_bounds-result-end c = omega (arith, length-take 65533 c.args.line.now, c.if-line-le-LONGEST_FRONT.false)

pub returns-clause-short : goal.returns-clause-short
returns-clause-short c = front_short c.args.line.now

use Rattle.std.proofs.Common.{arith}
use Rattle.stamps.proofs.LeadingLemmas.{block_long}
use Rattle.stamps.proofs.first_lines.first_block.Goals as goal

pub slice_bounds-result-end : goal.slice_bounds-result-end
slice_bounds-result-end c = block_long c.args.head.now (omega (arith, c.if-head-le-MOST_AHEAD.false))

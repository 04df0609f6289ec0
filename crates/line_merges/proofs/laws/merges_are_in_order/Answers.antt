use Rattle.line_merges.proofs.MergeLemmas.{merges-in_order}
use Rattle.line_merges.proofs.laws.merges_are_in_order.Goals as goal

pub returns : goal.returns
returns c = merges-in_order

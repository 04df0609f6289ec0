use Rattle.line_merges.proofs.SortLawLemmas.{in_order}
use Rattle.line_merges.proofs.laws.sorts_are_in_order.Goals as goal

pub returns : goal.returns
returns c = in_order

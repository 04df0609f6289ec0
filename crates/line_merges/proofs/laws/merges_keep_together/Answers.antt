use Rattle.line_merges.proofs.MergeLemmas.{merges-together}
use Rattle.line_merges.proofs.laws.merges_keep_together.Goals as goal

pub returns : goal.returns
returns c = merges-together

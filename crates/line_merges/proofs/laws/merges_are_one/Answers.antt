use Rattle.line_merges.proofs.MergeLemmas.{merges-one}
use Rattle.line_merges.proofs.laws.merges_are_one.Goals as goal

pub returns : goal.returns
returns c = merges-one

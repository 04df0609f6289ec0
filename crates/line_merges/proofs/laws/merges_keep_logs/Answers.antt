use Rattle.line_merges.proofs.MergeLemmas.{merges-keep}
use Rattle.line_merges.proofs.laws.merges_keep_logs.Goals as goal

pub returns : goal.returns
returns c = merges-keep

use Rattle.muxandu_c.proofs.SumLawLemmas.{timestamp_sums}
use Rattle.muxandu_c.proofs.laws.timestamp_sums_are_undone.Goals as goal

pub returns : goal.returns
returns c = timestamp_sums

use Rattle.muxandu_c.proofs.ReadBackLemmas.{counts}
use Rattle.muxandu_c.proofs.laws.counts_read_back.Goals as goal

pub returns : goal.returns
returns c = counts

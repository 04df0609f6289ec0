use Rattle.muxandu_c.proofs.ReadBackLemmas.{counts_down}
use Rattle.muxandu_c.proofs.laws.counts_round_down.Goals as goal

pub returns : goal.returns
returns c = counts_down

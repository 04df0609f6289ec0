use Rattle.muxandu_c.proofs.ReadBackLemmas.{times}
use Rattle.muxandu_c.proofs.laws.times_read_back.Goals as goal

pub returns : goal.returns
returns c = times

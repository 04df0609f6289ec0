use Rattle.muxandu_c.proofs.ReadBackLemmas.{moments}
use Rattle.muxandu_c.proofs.laws.moments_read_back.Goals as goal

pub returns : goal.returns
returns c = moments

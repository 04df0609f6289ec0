use Rattle.muxandu_c.proofs.ReadBackLemmas.{offsets}
use Rattle.muxandu_c.proofs.laws.offsets_read_back.Goals as goal

pub returns : goal.returns
returns c = offsets

use Rattle.muxandu_c.proofs.ReadBackLemmas.{dates}
use Rattle.muxandu_c.proofs.laws.dates_read_back.Goals as goal

pub returns : goal.returns
returns c = dates

use Rattle.muxandu_c.proofs.ReadBackLemmas.{durations}
use Rattle.muxandu_c.proofs.laws.durations_read_back.Goals as goal

pub returns : goal.returns
returns c = durations

use Rattle.muxandu_c.proofs.ReadBackLemmas.{date_times}
use Rattle.muxandu_c.proofs.laws.date_times_read_back.Goals as goal

pub returns : goal.returns
returns c = date_times

use Rattle.muxandu_c.proofs.ReadBackLemmas.{julian_days}
use Rattle.muxandu_c.proofs.laws.julian_days_read_back.Goals as goal

pub returns : goal.returns
returns c = julian_days

use Rattle.muxandu_c.proofs.ReadBackLemmas.{week_dates}
use Rattle.muxandu_c.proofs.laws.week_dates_read_back.Goals as goal

pub returns : goal.returns
returns c = week_dates

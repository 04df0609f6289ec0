use Rattle.muxandu_c.proofs.ReadBackLemmas.{ordinal_dates}
use Rattle.muxandu_c.proofs.laws.ordinal_dates_read_back.Goals as goal

pub returns : goal.returns
returns c = ordinal_dates

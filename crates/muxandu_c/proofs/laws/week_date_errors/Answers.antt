use Rattle.muxandu_c.proofs.StatusLawLemmas.{week_date_errors}
use Rattle.muxandu_c.proofs.laws.week_date_errors.Goals as goal

pub returns : goal.returns
returns c = week_date_errors

use Rattle.muxandu_c.proofs.StatusLawLemmas.{date_time_errors}
use Rattle.muxandu_c.proofs.laws.date_time_errors.Goals as goal

pub returns : goal.returns
returns c = date_time_errors

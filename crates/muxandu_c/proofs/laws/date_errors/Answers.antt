use Rattle.muxandu_c.proofs.StatusLawLemmas.{date_errors}
use Rattle.muxandu_c.proofs.laws.date_errors.Goals as goal

pub returns : goal.returns
returns c = date_errors

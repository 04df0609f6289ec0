use Rattle.muxandu_c.proofs.StatusLawLemmas.{time_errors}
use Rattle.muxandu_c.proofs.laws.time_errors.Goals as goal

pub returns : goal.returns
returns c = time_errors

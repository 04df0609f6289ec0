use Rattle.muxandu_c.proofs.StatusLawLemmas.{number_errors}
use Rattle.muxandu_c.proofs.laws.number_errors.Goals as goal

pub returns : goal.returns
returns c = number_errors

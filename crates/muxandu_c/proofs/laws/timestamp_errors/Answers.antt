use Rattle.muxandu_c.proofs.StatusLawLemmas.{timestamp_errors}
use Rattle.muxandu_c.proofs.laws.timestamp_errors.Goals as goal

pub returns : goal.returns
returns c = timestamp_errors

use Rattle.muxandu_c.proofs.StatusLawLemmas.{offset_errors}
use Rattle.muxandu_c.proofs.laws.offset_errors.Goals as goal

pub returns : goal.returns
returns c = offset_errors

use Rattle.muxandu_c.proofs.StatusLawLemmas.{ordinal_date_errors}
use Rattle.muxandu_c.proofs.laws.ordinal_date_errors.Goals as goal

pub returns : goal.returns
returns c = ordinal_date_errors

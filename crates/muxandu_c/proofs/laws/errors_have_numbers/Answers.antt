use Rattle.muxandu_c.proofs.StatusLawLemmas.{error_numbers}
use Rattle.muxandu_c.proofs.laws.errors_have_numbers.Goals as goal

pub returns : goal.returns
returns c = error_numbers

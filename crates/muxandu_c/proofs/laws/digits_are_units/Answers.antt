use Rattle.muxandu_c.proofs.PartLawLemmas.{digits}
use Rattle.muxandu_c.proofs.laws.digits_are_units.Goals as goal

pub returns : goal.returns
returns c = digits

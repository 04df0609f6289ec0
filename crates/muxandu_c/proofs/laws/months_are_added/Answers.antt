use Rattle.muxandu_c.proofs.PartLawLemmas.{months_later_too}
use Rattle.muxandu_c.proofs.laws.months_are_added.Goals as goal

pub returns : goal.returns
returns c = months_later_too

use Rattle.muxandu_c.proofs.PartLawLemmas.{days_later}
use Rattle.muxandu_c.proofs.laws.days_are_added.Goals as goal

pub returns : goal.returns
returns c = days_later

use Rattle.zones.proofs.LawLemmas.{stays}
use Rattle.zones.proofs.laws.stays_between.Goals as goal

pub returns : goal.returns
returns c = stays

use Rattle.zones.proofs.KeptLemmas.{holds}
use Rattle.zones.proofs.laws.one_type_holds.Goals as goal

pub returns : goal.returns
returns c = holds

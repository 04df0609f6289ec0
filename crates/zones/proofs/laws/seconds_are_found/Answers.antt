use Rattle.zones.proofs.LawLemmas.{found}
use Rattle.zones.proofs.laws.seconds_are_found.Goals as goal

pub returns : goal.returns
returns c = found

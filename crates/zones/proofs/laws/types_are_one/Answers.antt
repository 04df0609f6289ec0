use Rattle.zones.proofs.LawLemmas.{one}
use Rattle.zones.proofs.laws.types_are_one.Goals as goal

pub returns : goal.returns
returns c = one

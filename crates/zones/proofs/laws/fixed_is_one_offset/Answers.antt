use Rattle.zones.proofs.LawLemmas.{fixed}
use Rattle.zones.proofs.laws.fixed_is_one_offset.Goals as goal

pub returns : goal.returns
returns c = fixed

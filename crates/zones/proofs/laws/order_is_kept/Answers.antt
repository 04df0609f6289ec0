use Rattle.zones.proofs.LawLemmas.{kept}
use Rattle.zones.proofs.laws.order_is_kept.Goals as goal

pub returns : goal.returns
returns c = kept

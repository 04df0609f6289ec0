use Rattle.zoned_times.proofs.LawLemmas.{kept}
use Rattle.zoned_times.proofs.laws.order_is_kept.Goals as goal

pub returns : goal.returns
returns c = kept c.order_is_kept.ensures c.types_are_one.ensures

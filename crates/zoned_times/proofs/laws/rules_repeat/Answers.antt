use Rattle.zoned_times.proofs.LawLemmas.{repeat}
use Rattle.zoned_times.proofs.laws.rules_repeat.Goals as goal

pub returns : goal.returns
returns c = repeat c.rules_repeat.ensures

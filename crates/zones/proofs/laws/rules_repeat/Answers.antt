use Rattle.zones.proofs.LawLemmas.{repeat}
use Rattle.zones.proofs.laws.rules_repeat.Goals as goal

pub returns : goal.returns
returns c = repeat

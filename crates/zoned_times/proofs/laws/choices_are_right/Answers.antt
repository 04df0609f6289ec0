use Rattle.zoned_times.proofs.ChoiceLemmas.{choices}
use Rattle.zoned_times.proofs.laws.choices_are_right.Goals as goal

pub returns : goal.returns
returns c = choices

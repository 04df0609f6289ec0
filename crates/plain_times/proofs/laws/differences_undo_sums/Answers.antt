use Rattle.plain_times.proofs.WallClockLawLemmas.{difference-undoes_sum}
use Rattle.plain_times.proofs.laws.differences_undo_sums.Goals as goal

pub returns : goal.returns
returns c = difference-undoes_sum

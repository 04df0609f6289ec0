use Rattle.offset_times.proofs.ConversionLawLemmas.{difference-undoes_sum}
use Rattle.offset_times.proofs.laws.differences_undo_sums.Goals as goal

pub returns : goal.returns
returns c = difference-undoes_sum

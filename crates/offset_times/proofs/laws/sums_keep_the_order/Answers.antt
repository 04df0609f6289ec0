use Rattle.offset_times.proofs.SumLemmas.{sums-keep_the_order}
use Rattle.offset_times.proofs.laws.sums_keep_the_order.Goals as goal

pub returns : goal.returns
returns c = sums-keep_the_order

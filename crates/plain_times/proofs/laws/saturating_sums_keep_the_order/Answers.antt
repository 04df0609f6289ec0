use Rattle.plain_times.proofs.WallClockLawLemmas.{saturating_sums_keep_the_order}
use Rattle.plain_times.proofs.laws.saturating_sums_keep_the_order.Goals as goal

pub returns : goal.returns
returns c = saturating_sums_keep_the_order

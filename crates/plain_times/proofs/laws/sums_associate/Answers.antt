use Rattle.plain_times.proofs.WallClockLawLemmas.{sums-associate}
use Rattle.plain_times.proofs.laws.sums_associate.Goals as goal

pub returns : goal.returns
returns c = sums-associate

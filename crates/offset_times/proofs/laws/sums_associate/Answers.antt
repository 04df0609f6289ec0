use Rattle.offset_times.proofs.ConversionLawLemmas.{sums-associate}
use Rattle.offset_times.proofs.laws.sums_associate.Goals as goal

pub returns : goal.returns
returns c = sums-associate

use Rattle.muxandu_c.proofs.SumLawLemmas.{moment_sums}
use Rattle.muxandu_c.proofs.laws.moment_sums_are_those_of_timestamps.Goals as goal

pub returns : goal.returns
returns c = moment_sums

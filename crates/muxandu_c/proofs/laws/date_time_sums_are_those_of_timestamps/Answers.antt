use Rattle.muxandu_c.proofs.SumLawLemmas.{date_time_sums}
use Rattle.muxandu_c.proofs.laws.date_time_sums_are_those_of_timestamps.Goals as goal

pub returns : goal.returns
returns c = date_time_sums

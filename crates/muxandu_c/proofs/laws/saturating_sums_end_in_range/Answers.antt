use Rattle.muxandu_c.proofs.SumLawLemmas.{saturating_sums}
use Rattle.muxandu_c.proofs.laws.saturating_sums_end_in_range.Goals as goal

pub returns : goal.returns
returns c = saturating_sums

use Rattle.muxandu_c.proofs.SumLawLemmas.{saturating_date_times}
use Rattle.muxandu_c.proofs.laws.saturating_date_times_end_in_range.Goals as goal

pub returns : goal.returns
returns c = saturating_date_times

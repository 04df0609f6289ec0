use Rattle.plain_times.proofs.WallClockLawLemmas.{difference-leads_back}
use Rattle.plain_times.proofs.laws.differences_lead_back.Goals as goal

pub returns : goal.returns
returns c = difference-leads_back

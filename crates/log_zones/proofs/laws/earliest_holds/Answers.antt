use Rattle.log_zones.proofs.EarliestLemmas.{earliest}
use Rattle.log_zones.proofs.laws.earliest_holds.Goals as goal

pub returns : goal.returns
returns c = earliest

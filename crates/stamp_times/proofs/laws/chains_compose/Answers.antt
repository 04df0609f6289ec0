use Rattle.stamp_times.proofs.TravelLemmas.{chains-compose}
use Rattle.stamp_times.proofs.laws.chains_compose.Goals as goal

pub returns : goal.returns
returns c = chains-compose

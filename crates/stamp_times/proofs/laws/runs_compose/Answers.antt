use Rattle.stamp_times.proofs.RunLemmas.{runs-compose}
use Rattle.stamp_times.proofs.laws.runs_compose.Goals as goal

pub returns : goal.returns
returns c = runs-compose

use Rattle.line_counts.proofs.EmptyLemmas.{empty-runs_add_up}
use Rattle.line_counts.proofs.laws.empty_runs_add_up.Goals as goal

pub returns : goal.returns
returns g c = empty-runs_add_up

use Rattle.stamp_times.proofs.RunLemmas.{refused_calls-change_nothing}
use Rattle.stamp_times.proofs.laws.refused_calls_change_nothing.Goals as goal

pub returns : goal.returns
returns c = refused_calls-change_nothing

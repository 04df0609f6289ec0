use Rattle.stamp_times.proofs.LogCutLemmas.{All-before}
use Rattle.stamp_times.proofs.moment_logs.before.Goals as goal

pub returns-clause-each : goal.returns-clause-each
returns-clause-each g c = All-before g.M.Moment.instant _ _ _ c.split_at.ensures.before

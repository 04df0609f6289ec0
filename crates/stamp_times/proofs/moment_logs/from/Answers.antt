use Rattle.stamp_times.proofs.LogCutLemmas.{All-from}
use Rattle.stamp_times.proofs.moment_logs.from.Goals as goal

pub returns-clause-each : goal.returns-clause-each
returns-clause-each g c = All-from g.M.Moment.instant _ _ _ c.split_at.ensures.from

use Rattle.std.proofs.Common.{◌∙◌}
use Rattle.stamp_times.specs.LogLemmas.{none_later-last}
use Rattle.stamp_times.proofs.FirstByKeyLemmas.{last_at}
use Rattle.stamp_times.proofs.moment_logs.last.Goals as goal

pub returns-clause-none_later : goal.returns-clause-none_later
returns-clause-none_later g c = none_later-last g.M.Moment.instant c.args.log.now _ (c.copied.ensures ∙ c.last.ensures.value) c.requires

pub returns-clause-place : goal.returns-clause-place
returns-clause-place g c = last_at c.args.log.now _ (c.copied.ensures ∙ c.last.ensures.value)

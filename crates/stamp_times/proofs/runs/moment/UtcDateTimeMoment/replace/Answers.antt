use Rattle.std.proofs.Common.{rules}
use Rattle.stamp_times.proofs.MomentLemmas.{replaced-answered}
use Rattle.stamp_times.proofs.runs.moment.UtcDateTimeMoment.replace.Goals as goal

pub returns-clause-accepted : goal.returns-clause-accepted
returns-clause-accepted c = (replaced-answered _ _ c.args.self c.args.replace (search rules) c.utc_with.ensures.value).0

pub returns-clause-refused : goal.returns-clause-refused
returns-clause-refused c = (replaced-answered _ _ c.args.self c.args.replace (search rules) c.utc_with.ensures.value).1

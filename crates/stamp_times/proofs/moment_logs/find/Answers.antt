use Rattle.std.proofs.Common.{int_cmp}
use Rattle.stamp_times.proofs.LogSearchLemmas.{by_key, not_ContainsByKey-searched}
use Rattle.stamp_times.proofs.moment_logs.find.Goals as goal

pub returns-in-Err-clause-absent : goal.returns-in-Err-clause-absent
returns-in-Err-clause-absent g c =
    let position = rw (by_key g.M.Moment.instant int_cmp g.met.M.Moment.cmp_by_instant) at c.in-Err.ensures.position in
    not_ContainsByKey-searched g.M.Moment.instant _ _ _ c.requires position

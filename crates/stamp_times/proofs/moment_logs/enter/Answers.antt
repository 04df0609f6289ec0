use Rattle.std.proofs.Common.{int_cmp, refl}
use Rattle.stamp_times.specs.LogLemmas.{strictly-inserted, ContainsByKey-inserted}
use Rattle.stamp_times.proofs.FirstByKeyLemmas.{Contains-inserted}
use Rattle.stamp_times.proofs.LogSearchLemmas.{by_key, not_ContainsByKey-strictly}
use Rattle.stamp_times.proofs.moment_logs.enter.Goals as goal

pub returns-in_ok-insert-in-Err-clause-in_order : goal.returns-in_ok-insert-in-Err-clause-in_order
returns-in_ok-insert-in-Err-clause-in_order g c =
    let position = rw (by_key g.M.Moment.instant int_cmp g.met.M.Moment.cmp_by_instant) at c.in-Err.ensures.position in
    strictly-inserted g.M.Moment.instant _ _ _ _ _ c.in_ok-insert-in-Err.ensures.items c.deref.ensures.value c.requires position

pub returns-in_ok-insert-in-Err-clause-kept : goal.returns-in_ok-insert-in-Err-clause-kept
returns-in_ok-insert-in-Err-clause-kept g c = λ entry. λ found.
    ContainsByKey-inserted g.M.Moment.instant _ _ _ _ entry c.in_ok-insert-in-Err.ensures.items found

pub returns-in_ok-insert-in-Err-clause-was_new : goal.returns-in_ok-insert-in-Err-clause-was_new
returns-in_ok-insert-in-Err-clause-was_new g c =
    let position = rw (by_key g.M.Moment.instant int_cmp g.met.M.Moment.cmp_by_instant) at c.in-Err.ensures.position in
    ((λ is_new. not_ContainsByKey-strictly g.M.Moment.instant _ _ c.args.at c.in-Err.place c.deref.ensures.value c.requires position), (λ missing. refl))

pub returns-in_ok-insert-in-Err-clause-no_other : goal.returns-in_ok-insert-in-Err-clause-no_other
returns-in_ok-insert-in-Err-clause-no_other g c = λ entry. λ found. Contains-inserted _ _ _ _ entry c.in_ok-insert-in-Err.ensures.items found

pub returns-in_ok-insert-in-Err-clause-inserted : goal.returns-in_ok-insert-in-Err-clause-inserted
returns-in_ok-insert-in-Err-clause-inserted g c = λ is_new. (c.in-Err.place, c.in_ok-insert-in-Err.ensures.items)

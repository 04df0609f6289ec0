use Rattle.std.proofs.Common.{◌≡◌, ◌<◌, ◌+◌, suc, arith, refl, length, slice_index_or, int_cmp}
use Rattle.stamp_times.specs.LogLemmas.{strictly-removed, ContainsByKey-removed, ContainsByKey-before_removal, not_ContainsByKey-removed}
use Rattle.stamp_times.proofs.LogSearchLemmas.{by_key, equal-int_cmp, not_ContainsByKey-strictly}
use Rattle.stamp_times.proofs.moment_logs.remove.Given.{Over}
use Rattle.stamp_times.proofs.moment_logs.remove.Goals as goal

-- the place that was found is one of the log, and has the instant
within : (g : Over) → (c : goal.After-remove g) → c.in-Ok.place < length c.args.log.now.items
within g c = rw c.deref.ensures.value at c.in-Ok.ensures.bound

there : (g : Over) → (c : goal.After-remove g) → g.M.Moment.instant (slice_index_or c.args.log.now.items c.in-Ok.place c.args.at) ≡ g.M.Moment.instant c.args.at
there g c = equal-int_cmp _ _ (rw (c.deref.ensures.value, by_key g.M.Moment.instant int_cmp g.met.M.Moment.cmp_by_instant) at (c.in-Ok.ensures.ok c.args.at))

pub returns-in-Ok-clause-in_order : goal.returns-in-Ok-clause-in_order
returns-in-Ok-clause-in_order g c = rw c.remove.ensures.items (strictly-removed g.M.Moment.instant c.args.log.now.items c.in-Ok.place c.requires)

pub returns-in-Ok-clause-was_there : goal.returns-in-Ok-clause-was_there
returns-in-Ok-clause-was_there g c = ((λ found. (c.in-Ok.place, within g c, there g c)), (λ found. refl))

pub returns-in-Ok-clause-absent : goal.returns-in-Ok-clause-absent
returns-in-Ok-clause-absent g c = λ found.
    not_ContainsByKey-removed g.M.Moment.instant _ _ _ c.requires (within g c) (there g c) (rw c.remove.ensures.items at found)

pub returns-in-Ok-clause-kept : goal.returns-in-Ok-clause-kept
returns-in-Ok-clause-kept g c = λ entry. λ found. λ other.
    rw c.remove.ensures.items (ContainsByKey-removed g.M.Moment.instant _ _ _ entry (within g c) (there g c) other found)

pub returns-in-Ok-clause-no_other : goal.returns-in-Ok-clause-no_other
returns-in-Ok-clause-no_other g c = λ entry. λ found. ContainsByKey-before_removal g.M.Moment.instant _ _ entry (rw c.remove.ensures.items at found)

pub returns-in-Err-clause-absent : goal.returns-in-Err-clause-absent
returns-in-Err-clause-absent g c =
    let position = rw (by_key g.M.Moment.instant int_cmp g.met.M.Moment.cmp_by_instant) at c.in-Err.ensures.position in
    not_ContainsByKey-strictly g.M.Moment.instant _ _ c.args.at c.in-Err.field-0 c.deref.ensures.value c.requires position

pub returns-in-Err-clause-was_there : goal.returns-in-Err-clause-was_there
returns-in-Err-clause-was_there g c = ((λ no. absurd cc), (λ found. absurd (returns-in-Err-clause-absent g c found)))

pub returns-in-Ok-clause-removed : goal.returns-in-Ok-clause-removed
returns-in-Ok-clause-removed g c = λ found.
    let next : suc c.in-Ok.place ≡ c.in-Ok.place + 1 = omega arith in (c.in-Ok.place, rw next at c.remove.ensures.items)

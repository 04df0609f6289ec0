use Rattle.std.proofs.Common.{int_cmp}
use Rattle.std.proofs.lemmas.List.Sorted.{IsPermutation-sym}
use Rattle.std.specs.Ordering.{int_eq}
use Rattle.stamp_times.specs.LogLemmas.{strictly-deduped, ContainsByKey-deduped, ContainsByKey-before_dedup, ContainsByKey-permuted}
use Rattle.stamp_times.proofs.FirstByKeyLemmas.{first_by_key-left}
use Rattle.stamp_times.proofs.LogSearchLemmas.{by_key}
use Rattle.stamp_times.proofs.moment_logs.put_in_order.Goals as goal

pub returns-clause-in_order : goal.returns-clause-in_order
returns-clause-in_order g c =
    let sorted = rw (by_key g.M.Moment.instant int_cmp g.met.M.Moment.cmp_by_instant) at c.in_ok-sort.ensures.sorted in
    let filtered = rw (by_key g.M.Moment.instant int_eq g.met.M.Moment.eq_by_instant) at c.dedup.ensures.filtered in
    strictly-deduped g.M.Moment.instant _ _ sorted filtered

pub returns-clause-kept : goal.returns-clause-kept
returns-clause-kept g c =
    let filtered = rw (by_key g.M.Moment.instant int_eq g.met.M.Moment.eq_by_instant) at c.dedup.ensures.filtered in
    λ entry. λ found.
    let there = ContainsByKey-permuted g.M.Moment.instant _ _ entry c.sort.ensures.permutation found in
    ContainsByKey-deduped g.M.Moment.instant _ _ entry filtered there

pub returns-clause-no_other : goal.returns-clause-no_other
returns-clause-no_other g c =
    let filtered = rw (by_key g.M.Moment.instant int_eq g.met.M.Moment.eq_by_instant) at c.dedup.ensures.filtered in
    λ entry. λ found.
    let there = ContainsByKey-before_dedup g.M.Moment.instant _ _ entry filtered found in
    ContainsByKey-permuted g.M.Moment.instant _ _ entry (IsPermutation-sym _ _ c.sort.ensures.permutation) there

pub returns-clause-first : goal.returns-clause-first
returns-clause-first g c =
    let sorted = rw (by_key g.M.Moment.instant int_cmp g.met.M.Moment.cmp_by_instant) at c.in_ok-sort.ensures.sorted in
    let stable = rw (by_key g.M.Moment.instant int_cmp g.met.M.Moment.cmp_by_instant) at c.sort.ensures.stable in
    let filtered = rw (by_key g.M.Moment.instant int_eq g.met.M.Moment.eq_by_instant) at c.dedup.ensures.filtered in
    λ entry. λ found. first_by_key-left g.M.Moment.instant _ _ _ entry stable sorted filtered found

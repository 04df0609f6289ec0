use Rattle.std.proofs.Common.{ap, rules, Bool, ◌∙◌}
use Rattle.std.proofs.lemmas.List.Sorted.{IsPartitionPoint-from_clause}
use Rattle.std.specs.Ordering.{is_lt}
use Rattle.stamp_times.proofs.LogCutLemmas.{is_lt-int_cmp, IsPartitionedBy-before, take-before, drop-from}
use Rattle.stamp_times.proofs.moment_logs.split_at.Goals as goal

pub returns-clause-before : goal.returns-clause-before
returns-clause-before g c =
    let at = c.args.at in
    let key = g.M.Moment.instant in
    let test : g.row.M.Denot → Bool = λ entry. is_lt (g.M.Ord.cmp entry at) in
    let same = λ (entry : g.row.M.Denot). ap is_lt (g.met.M.Moment.cmp_by_instant entry at) ∙ is_lt-int_cmp (key entry) (key at) in
    let parted = IsPartitionedBy-before key test _ (key at) same c.requires in
    let point = IsPartitionPoint-from_clause test _ _ c.partition_point.ensures.partitioned parted (λ a r q k. search rules) in
    c.split_at.ensures.front ∙ take-before key test _ _ _ same c.partition_point.ensures.bound point

pub returns-clause-from : goal.returns-clause-from
returns-clause-from g c =
    let at = c.args.at in
    let key = g.M.Moment.instant in
    let test : g.row.M.Denot → Bool = λ entry. is_lt (g.M.Ord.cmp entry at) in
    let same = λ (entry : g.row.M.Denot). ap is_lt (g.met.M.Moment.cmp_by_instant entry at) ∙ is_lt-int_cmp (key entry) (key at) in
    let parted = IsPartitionedBy-before key test _ (key at) same c.requires in
    let point = IsPartitionPoint-from_clause test _ _ c.partition_point.ensures.partitioned parted (λ a r q k. search rules) in
    c.split_at.ensures.back ∙ drop-from key test _ _ _ same point

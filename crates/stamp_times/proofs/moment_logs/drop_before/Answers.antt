use Rattle.std.proofs.Common.{ap, rules, tests, int_cmp, Bool, ◌∙◌}
use Rattle.std.proofs.lemmas.Fn.{filter_same}
use Rattle.std.proofs.lemmas.List.Elements.{filter_agree}
use Rattle.std.proofs.lemmas.List.Kept.{IsStrictlySortedBy-filter}
use Rattle.std.specs.Ordering.{is_ge, on}
use Rattle.stamp_times.proofs.LogCutLemmas.{is_ge-int_cmp, All-from}
use Rattle.stamp_times.proofs.moment_logs.drop_before.Goals as goal

pub returns-clause-exact : goal.returns-clause-exact
returns-clause-exact g c =
    let at = c.args.at in
    let key = g.M.Moment.instant in
    let test : g.row.M.Denot → Bool = λ entry. is_ge (g.M.Ord.cmp entry at) in
    let same = λ (entry : g.row.M.Denot). ap is_ge (g.met.M.Moment.cmp_by_instant entry at) ∙ is_ge-int_cmp (key entry) (key at) in
    let kept = filter_same _ test _ (λ x b q k. search (rules, tests)) _ _ c.retain.ensures.filtered in
    kept ∙ filter_agree _ _ same _

pub returns-clause-each : goal.returns-clause-each
returns-clause-each g c = All-from g.M.Moment.instant _ _ _ (returns-clause-exact g c)

pub returns-clause-in_order : goal.returns-clause-in_order
returns-clause-in_order g c = λ before.
    rw (returns-clause-exact g c) (IsStrictlySortedBy-filter (on g.M.Moment.instant int_cmp) _ _ before)

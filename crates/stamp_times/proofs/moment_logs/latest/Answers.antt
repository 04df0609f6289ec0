use Rattle.std.proofs.Common.{ap, int_cmp, ◌∙◌}
use Rattle.std.proofs.lemmas.Iterator.Consumers.{reduce_from_yields_List, YieldsList-from_copied}
use Rattle.stamp_times.proofs.ExtremeByKeyLemmas.{last_by_key-greatest, items_of_slice, greatest_of}
use Rattle.stamp_times.proofs.LogSearchLemmas.{by_key}
use Rattle.stamp_times.proofs.moment_logs.latest.Goals as goal

pub returns-clause-last : goal.returns-clause-last
returns-clause-last g c =
    let ran = rw (by_key g.M.Moment.instant int_cmp g.met.M.Moment.cmp_by_instant) at c.max.ensures.ran in
    let rest = ap (λ source. source.rest.now) c.copied.ensures.source ∙ c.iter.ensures.rest in
    let items = items_of_slice c.copied.result.iter c.args.instants.now rest in
    last_by_key-greatest g.M.Moment.instant c.args.instants.now c.max.result
    (reduce_from_yields_List (greatest_of g.M.Moment.instant) _ c.max.result ran (YieldsList-from_copied items))

use Rattle.std.proofs.Common.{ap, int_cmp, ◌∙◌}
use Rattle.std.proofs.lemmas.Iterator.Consumers.{reduce_from_yields_List, YieldsList-from_copied}
use Rattle.stamp_times.proofs.ExtremeByKeyLemmas.{first_by_key-least, items_of_slice, least_of}
use Rattle.stamp_times.proofs.LogSearchLemmas.{by_key}
use Rattle.stamp_times.proofs.moment_logs.earliest.Goals as goal

pub returns-clause-first : goal.returns-clause-first
returns-clause-first g c =
    let ran = rw (by_key g.M.Moment.instant int_cmp g.met.M.Moment.cmp_by_instant) at c.min.ensures.ran in
    let rest = ap (λ source. source.rest.now) c.copied.ensures.source ∙ c.iter.ensures.rest in
    let items = items_of_slice c.copied.result.iter c.args.instants.now rest in
    first_by_key-least g.M.Moment.instant c.args.instants.now c.min.result
    (reduce_from_yields_List (least_of g.M.Moment.instant) _ c.min.result ran (YieldsList-from_copied items))

use Rattle.std.proofs.Common.{Result, Ok, Err, OnOk}
use Rattle.stamp_times.specs.LogLemmas.{ContainsByKey-right, ContainsByKey-joined}
use Rattle.stamp_times.specs.Logs.{ContainsByKey}
use Rattle.stamp_times.proofs.moment_logs.merge.Goals as goal

always : {T E : Type 0} (r : Result T E) (P : Type 0) → P → OnOk r P
always (Ok x) P p = p
always (Err x) P p = tt

pub returns-else-is_err-clause-entered : goal.returns-else-is_err-clause-entered
returns-else-is_err-clause-entered g c =
    let entered : (entry : g.row.M.Denot) → ContainsByKey g.M.Moment.instant c.args.other.now entry
    → ContainsByKey g.M.Moment.instant c.put_in_order-in_order.new.log.items entry
    = λ entry. λ found. c.put_in_order-in_order.ensures.kept entry (
    ContainsByKey-right g.M.Moment.instant _ _ _ entry c.in_ok-extend_from_slice.ensures.items found
    ) in
    always _ _ entered

pub returns-else-is_err-clause-no_other : goal.returns-else-is_err-clause-no_other
returns-else-is_err-clause-no_other g c = λ entry. λ found.
    let there = c.put_in_order-in_order.ensures.no_other entry found in
    ContainsByKey-joined g.M.Moment.instant _ _ _ entry c.in_ok-extend_from_slice.ensures.items there

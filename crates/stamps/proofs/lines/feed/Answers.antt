use Rattle.std.proofs.Common.{arith, refl, ◌∙◌, ◌++◌, take, append-nil}
use Rattle.std.proofs.lemmas.Result.{err_from_is_err_and}
use Rattle.std.proofs.lemmas.List.{take_all, length-drop}
use Rattle.line_devices.specs.FaultLemmas.{OnOk-fault, fault-not_ok}
use Rattle.stamps.proofs.BlockLemmas.{between-end, front_joined, rest_joined}
use Rattle.stamps.proofs.StepLemmas.{block_stands, block_ends, mark_kept}
use Rattle.stamps.proofs.lines.feed.Goals as goal

pub lines-init : goal.lines-init
lines-init g c = record {
  within = omega arith;
  stands = λ base taken h. rw (append-nil taken) h;
  mark = refl;
}

pub lines-preserved : goal.lines-preserved
lines-preserved g c =
    let block = c.args.block.now in
    let place = c.lines.place in
    record {
      within = let few = rw (between-end block place) at c.in_ok-place.ensures.count.1 in omega (arith, few, length-drop place block);
      stands = λ base taken h.
          rw (← front_joined taken block place c.in_ok-place.field-0)
          (c.in_ok-place.ensures.stands base (taken ++ take place block) (c.lines.invariant.stands base taken h));
      mark = c.in_ok-place.ensures.mark ∙ c.lines.invariant.mark;
    }

pub returns-in_err-place-clause-ends : goal.returns-in_err-place-clause-ends
returns-in_err-place-clause-ends g c =
    let p = err_from_is_err_and c.from_residual.result c.from_residual.ensures.1 in
    rw (p.1, p.2) (λ base taken more h.
    rw (← rest_joined taken c.args.block.now c.lines.place)
    (c.in_err-place.ensures.ends base (taken ++ take c.lines.place c.args.block.now) more (c.lines.invariant.stands base taken h)))

pub returns-in_err-place-clause-mark : goal.returns-in_err-place-clause-mark
returns-in_err-place-clause-mark g c =
    let p = err_from_is_err_and c.from_residual.result c.from_residual.ensures.1 in
    rw (p.1, p.2) (mark_kept _ _ _ _ c.in_err-place.ensures.mark c.lines.invariant.mark)

pub returns-in_err-place-clause-stands : goal.returns-in_err-place-clause-stands
returns-in_err-place-clause-stands g c = λ ok. absurd (fault-not_ok _ c.from_residual.result c.from_residual.ensures.1 ok)

pub returns-in_err-place-clause-empty : goal.returns-in_err-place-clause-empty
returns-in_err-place-clause-empty g c = OnOk-fault _ _ c.from_residual.result c.from_residual.ensures.1

pub returns-clause-stands : goal.returns-clause-stands
returns-clause-stands g c = λ ok base taken h.
    block_stands c.args.task.now base _ _ c.lines.pending _ c.lines.work (taken ++ c.args.block.now) c.write_pending.result ok
    c.write_pending.ensures.written c.write_pending.ensures.empty
    (rw (take_all c.lines.place c.args.block.now (omega arith)) at (c.lines.invariant.stands base taken h))

pub returns-clause-ends : goal.returns-clause-ends
returns-clause-ends g c =
    block_ends c.args.task.now _ _ _ c.args.pending.now c.lines.pending c.args.work.now c.lines.work c.args.block.now c.write_pending.result
    c.write_pending.ensures.written (rw (take_all c.lines.place c.args.block.now (omega arith)) at c.lines.invariant.stands)

pub returns-clause-empty : goal.returns-clause-empty
returns-clause-empty g c = c.write_pending.ensures.empty

pub returns-clause-mark : goal.returns-clause-mark
returns-clause-mark g c = rw c.lines.invariant.mark at c.write_pending.ensures.mark

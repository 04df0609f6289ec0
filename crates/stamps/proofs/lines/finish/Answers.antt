use Rattle.std.proofs.Common.{refl, sym}
use Rattle.std.proofs.lemmas.Result.{err_from_is_err_and}
use Rattle.stamps.proofs.PartLemmas.{completed, found_at_end}
use Rattle.stamps.proofs.StepLemmas.{end_cut}
use Rattle.stamps.proofs.lines.finish.Goals as goal

pub returns-in_err-write_pending-clause-ends : goal.returns-in_err-write_pending-clause-ends
returns-in_err-write_pending-clause-ends g c =
    let p = err_from_is_err_and c.from_residual-in_err-write_pending.result c.from_residual-in_err-write_pending.ensures.1 in
    rw (p.1, p.2) (λ base taken h.
    end_cut c.args.task.now base _ _ c.decide_rest.new.pending c.decide_rest.new.work taken _ c.in_err-write_pending.ensures.written
    (c.in_ok-decide_rest.ensures.settled refl base taken h))

pub returns-in-Some-clause-ends : goal.returns-in-Some-clause-ends
returns-in-Some-clause-ends g c = λ base taken h.
    found_at_end c.args.task.now base _ _ c.decide_rest.new.pending c.decide_rest.new.work taken _
    (c.in_ok-decide_rest.ensures.settled refl base taken h) c.in_ok-write_pending.ensures.written (sym c.in-Some.ensures)

pub returns-in-None-clause-completes : goal.returns-in-None-clause-completes
returns-in-None-clause-completes g c = λ ok base taken h.
    completed c.args.task.now base _ _ c.decide_rest.new.pending c.decide_rest.new.work taken
    (c.in_ok-decide_rest.ensures.settled refl base taken h) c.in_ok-write_pending.ensures.written (sym c.in-None.ensures)

use Rattle.std.proofs.Common.{refl, inl, ◌++◌}
use Rattle.std.proofs.lemmas.Result.{err_from_is_err_and}
use Rattle.stamps.proofs.PartLemmas.{line_ended, line_end_fault}
use Rattle.stamps.proofs.lines.end_line.Goals as goal

pub returns-in_err-pass-clause-ends : goal.returns-in_err-pass-clause-ends
returns-in_err-pass-clause-ends g c =
    let p = err_from_is_err_and c.from_residual-in_err-pass.result c.from_residual-in_err-pass.ensures.1 in
    rw (p.1, p.2) (λ base taken more h. line_end_fault c.args.task.now base _ _ c.decide_line.new.pending c.pass.new.pending c.decide_line.new.work
    (taken ++ c.args.part.now) more _ (c.in_ok-decide_line.ensures.decided refl base taken h) c.in_err-pass.ensures.passed)

pub returns-clause-stands : goal.returns-clause-stands
returns-clause-stands g c = λ ok base taken h.
    inl (line_ended c.args.task.now base _ _ c.decide_line.new.pending c.pass.new.pending c.decide_line.new.work _ (taken ++ c.args.part.now)
    (c.in_ok-decide_line.ensures.decided refl base taken h) refl refl c.clear.ensures c.in_ok-pass.ensures.passed)

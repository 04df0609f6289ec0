use Rattle.std.proofs.Common.{refl}
use Rattle.std.proofs.lemmas.Result.{err_from_is_err_and}
use Rattle.line_counts.proofs.StandLemmas.{completes, end_cut, last_cut}
use Rattle.line_counts.proofs.lines.finish.Goals as goal

pub returns-in_err-take_rest-clause-ends : goal.returns-in_err-take_rest-clause-ends
returns-in_err-take_rest-clause-ends g c =
    let p = err_from_is_err_and c.from_residual.result c.from_residual.ensures.1 in rw (p.1, p.2) c.in_err-take_rest.ensures.ends

pub returns-in_err-send_last-clause-ends : goal.returns-in_err-send_last-clause-ends
returns-in_err-send_last-clause-ends g c =
    let p = err_from_is_err_and c.from_residual-in_err-send_last.result c.from_residual-in_err-send_last.ensures.1 in
    rw (p.1, p.2) (λ base taken h.
    last_cut (g.B.Buckets.counting c.args.buckets.now) c.args.is_strict base _ _ c.take_rest.new.pending _ taken (c.in_ok-take_rest.ensures.sent refl base
    taken h) c.in_err-send_last.ensures.sent)

pub returns-in_err-flush-clause-ends : goal.returns-in_err-flush-clause-ends
returns-in_err-flush-clause-ends g c =
    let p = err_from_is_err_and c.from_residual-in_err-flush.result c.from_residual-in_err-flush.ensures.1 in
    rw (p.1, p.2) (λ base taken h.
    end_cut (g.B.Buckets.counting c.args.buckets.now) c.args.is_strict base _ _ _ c.take_rest.new.pending c.send_last.new.pending _ taken
    (c.in_ok-take_rest.ensures.sent refl base taken h)
    c.in_ok-send_last.ensures.sent c.in_err-flush.ensures.written)

pub returns-clause-completes : goal.returns-clause-completes
returns-clause-completes g c = λ ok base taken h.
    completes (g.B.Buckets.counting c.args.buckets.now) c.args.is_strict base _ _ _ c.take_rest.new.pending c.send_last.new.pending _ taken
    (c.in_ok-take_rest.ensures.sent refl base taken h)
    c.in_ok-send_last.ensures.sent c.in_ok-flush.ensures.written

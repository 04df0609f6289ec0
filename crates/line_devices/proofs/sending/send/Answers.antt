use Rattle.std.proofs.Common.{inl, inr, Result, Ok, Err, OnErr}
use Rattle.std.proofs.lemmas.Result.{err_from_is_err_and, MatchResult-weaker}
use Rattle.std.specs.Prelude.{MatchResult}
use Rattle.line_devices.specs.WritingLemmas.{AppendsBeginning-longer, AppendsBeginning-append, Sends-written}
use Rattle.line_devices.proofs.sending.send.Goals as goal

pub returns-in_err-flush-clause-sent : goal.returns-in_err-flush-clause-sent
returns-in_err-flush-clause-sent g c =
    let p = err_from_is_err_and c.from_residual.result c.from_residual.ensures.1 in
    rw p.1 (AppendsBeginning-longer _ _ c.args.pending.now c.args.text.now c.in_err-flush.ensures.written)

pub returns-clause-sent : goal.returns-clause-sent
returns-clause-sent g c =
    MatchResult-weaker c.write_whole.result c.write_whole.ensures.written
    (λ _ h. rw c.in_ok-flush.ensures.empty (Sends-written _ _ _ c.args.pending.now c.args.text.now c.in_ok-flush.ensures.written h))
    (λ _ h. AppendsBeginning-append _ _ _ c.args.pending.now c.args.text.now c.in_ok-flush.ensures.written h)

on_fault : {T E : Type 0} (P Q R : Type 0) (r : Result T E) → MatchResult r (λ _. P) (λ _. Q) → (Q → R) → OnErr r R
on_fault P Q R (Ok done) h next = tt
on_fault P Q R (Err fault) h next = next h

pub returns-in_err-flush-clause-kept : goal.returns-in_err-flush-clause-kept
returns-in_err-flush-clause-kept g c =
    let p = err_from_is_err_and c.from_residual.result c.from_residual.ensures.1 in
    rw p.1 (inl (c.in_err-flush.ensures.kept, c.in_err-flush.ensures.written))

pub returns-clause-kept : goal.returns-clause-kept
returns-clause-kept g c = on_fault _ _ _ c.write_whole.result c.write_whole.ensures.written (λ h. inr (
  c.in_ok-flush.ensures.empty,
  record { between = _; appended = c.in_ok-flush.ensures.written; beginning = h },
))

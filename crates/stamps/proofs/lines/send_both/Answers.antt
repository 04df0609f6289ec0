use Rattle.std.proofs.Common.{◌++◌, append_assoc}
use Rattle.std.proofs.lemmas.Result.{err_from_is_err_and, MatchResult-weaker}
use Rattle.line_devices.specs.WritingLemmas.{AppendsBeginning-longer, AppendsBeginning-pending, Sends-append}
use Rattle.stamps.proofs.lines.send_both.Goals as goal

pub returns-in_err-send-clause-sent : goal.returns-in_err-send-clause-sent
returns-in_err-send-clause-sent g c =
    let p = err_from_is_err_and c.from_residual.result c.from_residual.ensures.1 in
    rw (p.1, ← append_assoc c.args.pending.now c.args.first.now c.args.second.now)
    (AppendsBeginning-longer _ _ (c.args.pending.now ++ c.args.first.now) c.args.second.now c.in_err-send.ensures.sent)

pub returns-clause-sent : goal.returns-clause-sent
returns-clause-sent g c =
    let first = c.args.pending.now ++ c.args.first.now in
    let second = c.args.second.now in
    rw (← append_assoc c.args.pending.now c.args.first.now c.args.second.now)
    (MatchResult-weaker c.send-2.result c.send-2.ensures.sent (λ _ h. Sends-append _ _ _ c.send.new.pending first _ second c.in_ok-send.ensures.sent h)
    (λ _ h. AppendsBeginning-pending _ _ _ c.send.new.pending first second c.in_ok-send.ensures.sent h))

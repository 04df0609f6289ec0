use Rattle.std.proofs.Common.{◌++◌, append_assoc}
use Rattle.std.proofs.lemmas.Result.{err_from_is_err_and, MatchResult-weaker}
use Rattle.line_devices.specs.WritingLemmas.{AppendsBeginning-longer, AppendsBeginning-pending, Sends-append}
use Rattle.stamps.proofs.lines.send_all.Goals as goal

pub returns-in_err-send-clause-sent : goal.returns-in_err-send-clause-sent
returns-in_err-send-clause-sent g c =
    let rest = c.args.first.now ++ c.args.second.now in
    let p = err_from_is_err_and c.from_residual.result c.from_residual.ensures.1 in
    rw (p.1, ← append_assoc c.args.pending.now c.args.front.now rest)
    (AppendsBeginning-longer _ _ (c.args.pending.now ++ c.args.front.now) rest c.in_err-send.ensures.sent)

pub returns-clause-sent : goal.returns-clause-sent
returns-clause-sent g c =
    let first = c.args.pending.now ++ c.args.front.now in
    let rest = c.args.first.now ++ c.args.second.now in
    rw (← append_assoc c.args.pending.now c.args.front.now rest)
    (MatchResult-weaker c.send_both-2.result c.send_both-2.ensures.sent (λ _ h. Sends-append _ _ _ c.send.new.pending first _ rest c.in_ok-send.ensures.sent h)
    (λ _ h. AppendsBeginning-pending _ _ _ c.send.new.pending first rest c.in_ok-send.ensures.sent h))

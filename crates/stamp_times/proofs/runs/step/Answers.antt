use Rattle.std.proofs.Common.{◌∙◌, ap}
use Rattle.offset_times.specs.Local.{shown_at}
use Rattle.stamp_times.specs.Counter.{shift_reply, shift_next, replace_reply, replace_next}
use Rattle.stamp_times.proofs.MomentLemmas.{local_reply-accepted, local_reply-refused}
use Rattle.stamp_times.proofs.runs.step.Goals as goal

pub returns-in-Some-at_offset-clause-reply : goal.returns-in-Some-at_offset-clause-reply
returns-in-Some-at_offset-clause-reply g c =
    let o = c.in-Local.offset in
    let shown = shown_at (g.M.Moment.instant c.args.held) o in
    rw c.in-Local.is (c.local_reply.ensures ∙ local_reply-accepted c.in-Some-at_offset.at shown o c.in-Some-at_offset.ensures.value)

pub returns-in-None-at_offset-clause-reply : goal.returns-in-None-at_offset-clause-reply
returns-in-None-at_offset-clause-reply g c =
    let o = c.in-Local.offset in
    let shown = shown_at (g.M.Moment.instant c.args.held) o in
    rw c.in-Local.is (local_reply-refused shown o c.in-None-at_offset.ensures.value)

pub returns-in-Some-clause-reply : goal.returns-in-Some-clause-reply
returns-in-Some-clause-reply g c = rw c.in-Shift.is (c.reply_of.ensures ∙ ap shift_reply c.in-Some.ensures.value)

pub returns-in-Some-clause-next : goal.returns-in-Some-clause-next
returns-in-Some-clause-next g c =
    let i = g.M.Moment.instant c.args.held in
    rw c.in-Shift.is (ap (shift_next i) c.in-Some.ensures.value)

pub returns-in-None-clause-reply : goal.returns-in-None-clause-reply
returns-in-None-clause-reply g c = rw c.in-Shift.is (ap shift_reply c.in-None.ensures.value)

pub returns-in-None-clause-next : goal.returns-in-None-clause-next
returns-in-None-clause-next g c =
    let i = g.M.Moment.instant c.args.held in
    rw c.in-Shift.is (ap (shift_next i) c.in-None.ensures.value)

pub returns-in-Ok-clause-reply : goal.returns-in-Ok-clause-reply
returns-in-Ok-clause-reply g c = rw c.in-Replace.is (c.reply_of-in-Ok.ensures ∙ ap replace_reply c.in-Ok.ensures.value)

pub returns-in-Ok-clause-next : goal.returns-in-Ok-clause-next
returns-in-Ok-clause-next g c =
    let i = g.M.Moment.instant c.args.held in
    rw c.in-Replace.is (ap (replace_next i) c.in-Ok.ensures.value)

pub returns-in-Err-clause-reply : goal.returns-in-Err-clause-reply
returns-in-Err-clause-reply g c = rw c.in-Replace.is (ap replace_reply c.in-Err.ensures.value)

pub returns-in-Err-clause-next : goal.returns-in-Err-clause-next
returns-in-Err-clause-next g c =
    let i = g.M.Moment.instant c.args.held in
    rw c.in-Replace.is (ap (replace_next i) c.in-Err.ensures.value)

use Rattle.std.proofs.Common.{append_assoc}
use Rattle.std.proofs.lemmas.Result.{err_from_is_err_and}
use Rattle.times_bench.specs.Answers.{answer_of}
use Rattle.line_devices.specs.WritingLemmas.{Appends-flushed, AppendsBeginning-longer, AppendsBeginning-flushed}
use Rattle.times_bench.proofs.SendingLemmas.{AtFault-weaker}
use Rattle.times_bench.proofs.sending.send_answer.Goals as goal

pub returns-in_err-make_room-clause-sent : goal.returns-in_err-make_room-clause-sent
returns-in_err-make_room-clause-sent g c =
    let p = err_from_is_err_and c.from_residual.result c.from_residual.ensures.1 in
    rw (p.1, p.2) (AtFault-weaker _ c.in_err-make_room.ensures.sent
    (λ cut. AppendsBeginning-longer _ _ c.args.pending.now (answer_of c.args.line.now) cut) (λ none. absurd none))

pub returns-in_err-flush-clause-sent : goal.returns-in_err-flush-clause-sent
returns-in_err-flush-clause-sent g c =
    let p = err_from_is_err_and c.from_residual-in_err-flush.result c.from_residual-in_err-flush.ensures.1 in
    let old = c.args.pending.now in
    let fault = rw c.in_default.ensures.0 at c.in_err-flush.ensures.written in
    rw (p.1, p.2) (AtFault-weaker _ fault
    (λ cut. AppendsBeginning-longer _ _ old (answer_of c.args.line.now)
    (AppendsBeginning-flushed _ _ _ c.make_room.new.pending old c.in_ok-make_room.ensures.sent cut)) (λ none. absurd none))

pub returns-in_default-clause-sent : goal.returns-in_default-clause-sent
returns-in_default-clause-sent g c = (
  Appends-flushed _ _ _ c.make_room.new.pending c.args.pending.now c.in_ok-make_room.ensures.sent (rw c.in_default.ensures.0 at c.in_ok-flush.ensures.written),
  c.in_default.ensures.1,
)

pub returns-clause-sent : goal.returns-clause-sent
returns-clause-sent g c =
    let before = c.in_ok-make_room.ensures.sent in
    record {
      sent = before.sent;
      appended = before.appended;
      whole = rw (c.in-Ok.ensures, before.whole) (append_assoc before.sent c.make_room.new.pending (answer_of c.args.line.now));
    }

use Rattle.std.proofs.Common.{◌∙◌}
use Rattle.muxandu_c.proofs.WrittenTextLemmas.{room_for_any, status-length}
use Rattle.muxandu_c.specs.Exchange.{date_time_to_rfc3339}
use Rattle.muxandu_c.proofs.exchange.muxandu_date_time_to_rfc3339.Goals as goal

pub returns-clause-status : goal.returns-clause-status
returns-clause-status c =
    let answer = date_time_to_rfc3339 c.args.date_time in
    let room = room_for_any answer c.args.buffer.now c.write_date_time.ensures.at_most c.if-buffer-lt-TEXT_ROOM.false in
    rw room (rw c.write_date_time.ensures.length at c.answer.ensures.0 ∙ status-length answer)

pub returns-clause-written : goal.returns-clause-written
returns-clause-written c =
    rw (room_for_any (date_time_to_rfc3339 c.args.date_time) c.args.buffer.now c.write_date_time.ensures.at_most c.if-buffer-lt-TEXT_ROOM.false)
    c.write_date_time.ensures.written

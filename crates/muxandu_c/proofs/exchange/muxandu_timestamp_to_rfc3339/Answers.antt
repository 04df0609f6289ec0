use Rattle.std.proofs.Common.{◌∙◌}
use Rattle.muxandu_c.proofs.WrittenTextLemmas.{room_for_any, status-length, thirty_at_most}
use Rattle.muxandu_c.specs.Exchange.{timestamp_to_rfc3339}
use Rattle.muxandu_c.proofs.exchange.muxandu_timestamp_to_rfc3339.Goals as goal

pub returns-clause-status : goal.returns-clause-status
returns-clause-status c =
    let answer = timestamp_to_rfc3339 c.args.at in
    let room = room_for_any answer c.args.buffer.now (thirty_at_most _ c.write_timestamp.ensures.at_most) c.if-buffer-lt-TEXT_ROOM.false in
    rw room (rw c.write_timestamp.ensures.length at c.answer.ensures.0 ∙ status-length answer)

pub returns-clause-written : goal.returns-clause-written
returns-clause-written c =
    rw (room_for_any (timestamp_to_rfc3339 c.args.at) c.args.buffer.now (thirty_at_most _ c.write_timestamp.ensures.at_most)
    c.if-buffer-lt-TEXT_ROOM.false) c.write_timestamp.ensures.written

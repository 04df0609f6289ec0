use Rattle.muxandu_c.proofs.WrittenTextLemmas.{room_for_any}
use Rattle.muxandu_c.specs.Exchange.{date_time_to_rfc3339}
use Rattle.muxandu_c.proofs.text_blocks.write_text.Goals as goal

pub returns-then-block-ge-TEXT_ROOM-clause-length : goal.returns-then-block-ge-TEXT_ROOM-clause-length
returns-then-block-ge-TEXT_ROOM-clause-length c =
    rw (room_for_any (date_time_to_rfc3339 c.args.date_time) c.args.block.now c.write_date_time.ensures.at_most c.if-block-ge-TEXT_ROOM.true)
    c.write_date_time.ensures.length

pub returns-then-block-ge-TEXT_ROOM-clause-written : goal.returns-then-block-ge-TEXT_ROOM-clause-written
returns-then-block-ge-TEXT_ROOM-clause-written c =
    rw (room_for_any (date_time_to_rfc3339 c.args.date_time) c.args.block.now c.write_date_time.ensures.at_most c.if-block-ge-TEXT_ROOM.true)
    c.write_date_time.ensures.written

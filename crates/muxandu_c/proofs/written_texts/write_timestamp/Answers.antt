use Rattle.muxandu_c.proofs.WrittenTextLemmas.{text_of_timestamp, numbers-writable, timestamp_text_at_most}
use Rattle.muxandu_c.proofs.written_texts.write_timestamp.Goals as goal

pub write_numbers-requires-clause-numbers : goal.write_numbers-requires-clause-numbers
write_numbers-requires-clause-numbers c = rw c.numbers_of.ensures (numbers-writable _ _ c.wall_parts.ensures)

pub returns-clause-length : goal.returns-clause-length
returns-clause-length c = rw (text_of_timestamp c.args.at c.in_ok-at.at c.wall_parts.result c.numbers_of.result c.numbers_of.ensures
    c.wall_parts.ensures c.in_ok-at.ensures) at c.write_numbers.ensures.length

pub returns-clause-written : goal.returns-clause-written
returns-clause-written c = rw (text_of_timestamp c.args.at c.in_ok-at.at c.wall_parts.result c.numbers_of.result c.numbers_of.ensures
    c.wall_parts.ensures c.in_ok-at.ensures) at c.write_numbers.ensures.written

pub returns-clause-at_most : goal.returns-clause-at_most
returns-clause-at_most c = timestamp_text_at_most c.texts_in_utc_have_thirty_bytes.ensures c.args.at

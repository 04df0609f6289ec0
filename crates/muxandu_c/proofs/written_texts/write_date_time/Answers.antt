use Rattle.muxandu_c.proofs.WrittenTextLemmas.{text_of_date_time, numbers-writable}
use Rattle.muxandu_c.proofs.written_texts.write_date_time.Goals as goal

pub write_numbers-requires-clause-numbers : goal.write_numbers-requires-clause-numbers
write_numbers-requires-clause-numbers c = rw c.numbers_of.ensures (numbers-writable _ _ c.in_ok-read_date_time.ensures.shown)

pub returns-clause-length : goal.returns-clause-length
returns-clause-length c = rw (text_of_date_time c.args.date_time c.in_ok-read_date_time.field-0 c.numbers_of.result c.numbers_of.ensures
    c.in_ok-read_date_time.ensures.shown c.in_ok-read_date_time.ensures.value) at c.write_numbers.ensures.length

pub returns-clause-written : goal.returns-clause-written
returns-clause-written c = rw (text_of_date_time c.args.date_time c.in_ok-read_date_time.field-0 c.numbers_of.result c.numbers_of.ensures
    c.in_ok-read_date_time.ensures.shown c.in_ok-read_date_time.ensures.value) at c.write_numbers.ensures.written

pub returns-clause-at_most : goal.returns-clause-at_most
returns-clause-at_most c = rw (text_of_date_time c.args.date_time c.in_ok-read_date_time.field-0 c.numbers_of.result c.numbers_of.ensures
    c.in_ok-read_date_time.ensures.shown c.in_ok-read_date_time.ensures.value) at c.write_numbers.ensures.at_most

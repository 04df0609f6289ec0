use Rattle.std.proofs.Common.{get_or}
use Rattle.lanes.proofs.MinuteTextLemmas.{written-same, pair-lane, eight-same}
use Rattle.lanes.proofs.minute_texts.minute_text_numbers.Goals as goal

pub returns : goal.returns
returns c =
    let bytes = c.args.bytes in
    rw (written-same bytes c.fits-bytes.0) (eight-same
    (pair-lane (get_or bytes 0 0) (get_or bytes 1 0) c.requires.century.tens c.requires.century.ones)
    (pair-lane (get_or bytes 2 0) (get_or bytes 3 0) c.requires.year.tens c.requires.year.ones)
    (pair-lane (get_or bytes 5 0) (get_or bytes 6 0) c.requires.month.tens c.requires.month.ones)
    (pair-lane (get_or bytes 8 0) (get_or bytes 9 0) c.requires.day.tens c.requires.day.ones)
    (pair-lane (get_or bytes 11 0) (get_or bytes 12 0) c.requires.hour.tens c.requires.hour.ones)
    (pair-lane (get_or bytes 14 0) (get_or bytes 15 0) c.requires.minute.tens c.requires.minute.ones)
    (pair-lane (get_or bytes 14 0) (get_or bytes 15 0) c.requires.minute.tens c.requires.minute.ones)
    (pair-lane (get_or bytes 14 0) (get_or bytes 15 0) c.requires.minute.tens c.requires.minute.ones))

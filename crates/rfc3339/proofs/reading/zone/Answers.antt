use Rattle.std.proofs.Common.{inl, inr, refl, Some, None, ◌-◌, length, take, drop, get_or}
use Rattle.rfc3339.proofs.ZoneLemmas.{zone_at-none, zone_at-utc, zone_at-short, zone_at-unsigned, zone_at-signed, signed-digits}
use Rattle.rfc3339.proofs.reading.zone.Goals as goal
use Rattle.rfc3339.proofs.reading.zone.Goals.{then-first-eq90-via-then-first-eq90, then-first-eq90-via-else-first-eq90+then-first-eq122}

pub returns-in_default : goal.returns-in_default
returns-in_default c = zone_at-none c.args.text.now c.in_default.len_below

pub returns-then-first-eq90 : goal.returns-then-first-eq90
returns-then-first-eq90 c =
    elim c.then-first-eq90.branch [
      | then-first-eq90-via-then-first-eq90 w ↦ zone_at-utc c.args.text.now c.in-len1-up.len_at_least (inl w.if-first-eq90.true)
      | then-first-eq90-via-else-first-eq90+then-first-eq122 w ↦ zone_at-utc c.args.text.now c.in-len1-up.len_at_least (inr w.if-first-eq122.true)
    ]

pub returns-in_default-text : goal.returns-in_default-text
returns-in_default-text c =
    zone_at-short c.args.text.now c.in-len1-up.len_at_least c.if-first-eq90.false c.if-first-eq122.false c.in_default-text.len_below

pub number-hour-requires-clause-tens : goal.number-hour-requires-clause-tens
number-hour-requires-clause-tens c =
    let text = c.args.text.now in
    let digits = rw (c.is_ascii_digit.ensures.value, c.is_ascii_digit-2.ensures.value) at c.if-first-is_ascii_digit.true in
    (signed-digits (get_or text 0 0) (take (length text - 1) (drop 1 text)) digits).0

pub number-hour-requires-clause-units : goal.number-hour-requires-clause-units
number-hour-requires-clause-units c =
    let text = c.args.text.now in
    let digits = rw (c.is_ascii_digit.ensures.value, c.is_ascii_digit-2.ensures.value) at c.if-first-is_ascii_digit.true in
    (signed-digits (get_or text 0 0) (take (length text - 1) (drop 1 text)) digits).1

pub returns-in_err-minute : goal.returns-in_err-minute
returns-in_err-minute c =
    let digits = rw (c.is_ascii_digit.ensures.value, c.is_ascii_digit-2.ensures.value) at c.if-first-is_ascii_digit.true in
    rw c.from_residual.ensures
    (zone_at-signed c.args.text.now c.in-len1-up.len_at_least c.if-first-eq90.false c.if-first-eq122.false _ refl c.in-len2-up.len_at_least digits None
    c.in_err-minute.ensures)

pub returns-then-first-is_ascii_digit : goal.returns-then-first-is_ascii_digit
returns-then-first-is_ascii_digit c =
    let digits = rw (c.is_ascii_digit.ensures.value, c.is_ascii_digit-2.ensures.value) at c.if-first-is_ascii_digit.true in
    rw c.number-hour.ensures
    (zone_at-signed c.args.text.now c.in-len1-up.len_at_least c.if-first-eq90.false c.if-first-eq122.false _ refl c.in-len2-up.len_at_least digits
    (Some (c.in_ok-minute.minute, c.in_ok-minute.text.now)) c.in_ok-minute.ensures)

pub returns : goal.returns
returns c =
    let digits = rw (c.is_ascii_digit.ensures.value, c.is_ascii_digit-2.ensures.value) at c.if-first-is_ascii_digit.false in
    zone_at-unsigned c.args.text.now c.in-len1-up.len_at_least c.if-first-eq90.false c.if-first-eq122.false c.in-len2-up.len_at_least digits

use Rattle.std.proofs.Common.{arith, get_or}
use Rattle.rfc3339.proofs.ByteLemmas.{four_digits-bound, four_digits-ranges, year_at-short, year_at-digits, year_at-none}
use Rattle.rfc3339.proofs.reading.year.Goals as goal

pub returns-then-is_ascii_digit-clause-value : goal.returns-then-is_ascii_digit-clause-value
returns-then-is_ascii_digit-clause-value c =
    let digits = rw (c.is_ascii_digit.ensures.value, c.is_ascii_digit-2.ensures.value, c.is_ascii_digit-3.ensures.value, c.is_ascii_digit-4.ensures.value) at
    c.if-is_ascii_digit.true in
    rw (c.number-century.ensures, c.number.ensures) (year_at-digits c.args.text.now c.in-len4-up.len_at_least digits)

pub returns-then-is_ascii_digit-clause-in_range : goal.returns-then-is_ascii_digit-clause-in_range
returns-then-is_ascii_digit-clause-in_range c =
    let digits = rw (c.is_ascii_digit.ensures.value, c.is_ascii_digit-2.ensures.value, c.is_ascii_digit-3.ensures.value, c.is_ascii_digit-4.ensures.value) at
    c.if-is_ascii_digit.true in
    rw (c.number-century.ensures, c.number.ensures) (four_digits-bound _ _ _ _ digits)

pub overflow_add-result : goal.overflow_add-result
overflow_add-result c =
    let digits = rw (c.is_ascii_digit.ensures.value, c.is_ascii_digit-2.ensures.value, c.is_ascii_digit-3.ensures.value, c.is_ascii_digit-4.ensures.value) at
    c.if-is_ascii_digit.true in
    let text = c.args.text.now in
    let bound = four_digits-bound (get_or text 0 0) (get_or text 1 0) (get_or text 2 0) (get_or text 3 0) digits in
    rw (c.number-century.ensures, c.number.ensures) (omega (arith, bound))

pub returns-else-is_ascii_digit-clause-value : goal.returns-else-is_ascii_digit-clause-value
returns-else-is_ascii_digit-clause-value c =
    let digits = rw (c.is_ascii_digit.ensures.value, c.is_ascii_digit-2.ensures.value, c.is_ascii_digit-3.ensures.value, c.is_ascii_digit-4.ensures.value) at
    c.if-is_ascii_digit.false in
    year_at-none c.args.text.now c.in-len4-up.len_at_least digits

pub returns-in_default-clause-value : goal.returns-in_default-clause-value
returns-in_default-clause-value c = year_at-short c.args.text.now c.in_default.len_below

pub number-century-requires-clause-tens : goal.number-century-requires-clause-tens
number-century-requires-clause-tens c =
    let digits = rw (c.is_ascii_digit.ensures.value, c.is_ascii_digit-2.ensures.value, c.is_ascii_digit-3.ensures.value, c.is_ascii_digit-4.ensures.value) at
    c.if-is_ascii_digit.true in
    let text = c.args.text.now in (four_digits-ranges (get_or text 0 0) (get_or text 1 0) (get_or text 2 0) (get_or text 3 0) digits).0.0

pub number-century-requires-clause-units : goal.number-century-requires-clause-units
number-century-requires-clause-units c =
    let digits = rw (c.is_ascii_digit.ensures.value, c.is_ascii_digit-2.ensures.value, c.is_ascii_digit-3.ensures.value, c.is_ascii_digit-4.ensures.value) at
    c.if-is_ascii_digit.true in
    let text = c.args.text.now in (four_digits-ranges (get_or text 0 0) (get_or text 1 0) (get_or text 2 0) (get_or text 3 0) digits).0.1

pub number-requires-clause-tens : goal.number-requires-clause-tens
number-requires-clause-tens c =
    let digits = rw (c.is_ascii_digit.ensures.value, c.is_ascii_digit-2.ensures.value, c.is_ascii_digit-3.ensures.value, c.is_ascii_digit-4.ensures.value) at
    c.if-is_ascii_digit.true in
    let text = c.args.text.now in (four_digits-ranges (get_or text 0 0) (get_or text 1 0) (get_or text 2 0) (get_or text 3 0) digits).1.0

pub number-requires-clause-units : goal.number-requires-clause-units
number-requires-clause-units c =
    let digits = rw (c.is_ascii_digit.ensures.value, c.is_ascii_digit-2.ensures.value, c.is_ascii_digit-3.ensures.value, c.is_ascii_digit-4.ensures.value) at
    c.if-is_ascii_digit.true in
    let text = c.args.text.now in (four_digits-ranges (get_or text 0 0) (get_or text 1 0) (get_or text 2 0) (get_or text 3 0) digits).1.1

use Rattle.std.proofs.Common.{sym}
use Rattle.rfc3339.proofs.ZeroLemmas.{text_left}
use Rattle.rfc3339.proofs.write_into.put_any_fraction.Goals as goal

pub returns-clause-value : goal.returns-clause-value
returns-clause-value c =
    let count = c.count_before_zeros-end in
    let text = text_left c.nine_digits-digits.result c.args.nanosecond count.result c.nine_digits-digits.ensures count.ensures.value c.requires.some in
    rw (sym text) c.write_at.ensures.value

pub returns-clause-place : goal.returns-clause-place
returns-clause-place c =
    let count = c.count_before_zeros-end in
    let text = text_left c.nine_digits-digits.result c.args.nanosecond count.result c.nine_digits-digits.ensures count.ensures.value c.requires.some in
    rw (sym text) c.write_at.ensures.place

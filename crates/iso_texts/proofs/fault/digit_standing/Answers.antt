use Rattle.std.proofs.Common.{sym, ◌∙◌}
use Rattle.iso_texts.proofs.IsoLongestLemmas.{digit_none, digit_some, digit_other}
use Rattle.iso_texts.proofs.fault.digit_standing.Goals as goal

pub returns-in_default-clause-longest : goal.returns-in_default-clause-longest
returns-in_default-clause-longest c = digit_none c.args.text.now c.in_default.ensures.cases

pub returns-then-is_ascii_digit-clause-longest : goal.returns-then-is_ascii_digit-clause-longest
returns-then-is_ascii_digit-clause-longest c =
    digit_some c.args.text.now c.in-Some.rest.now c.in-Some.byte.now c.plain_standing.result c.in-Some.ensures.cases.0
    (sym c.is_ascii_digit.ensures.value ∙ c.if-is_ascii_digit.true) c.plain_standing.ensures.longest

pub returns-clause-longest : goal.returns-clause-longest
returns-clause-longest c =
    digit_other c.args.text.now c.in-Some.rest.now c.in-Some.byte.now c.in-Some.ensures.cases.0
    (sym c.is_ascii_digit.ensures.value ∙ c.if-is_ascii_digit.false)

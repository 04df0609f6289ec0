use Rattle.std.proofs.Common.{◌≡◌, true, sym, ◌∙◌}
use Rattle.std.specs.Char.{is_ascii_digit}
use Rattle.iso_texts.proofs.IsoLongestLemmas.{digits_none, digits_some, digits_other}
use Rattle.iso_texts.proofs.fault.digits_standing.Goals as goal

pub returns-in_default-clause-longest : goal.returns-in_default-clause-longest
returns-in_default-clause-longest c = digits_none c.args.text.now c.in_default.ensures.cases

pub returns-then-is_ascii_digit-clause-longest : goal.returns-then-is_ascii_digit-clause-longest
returns-then-is_ascii_digit-clause-longest c =
    let digit : is_ascii_digit c.in-Some.byte.now ≡ true = sym c.is_ascii_digit.ensures.value ∙ c.if-is_ascii_digit.true in
    digits_some c.args.text.now c.in-Some.rest.now c.in-Some.byte.now c.digit_standing.result c.in-Some.ensures.cases.0
    (λ sign. λ s. c.digit_standing.ensures.longest sign c.in-Some.byte.now s digit)

pub returns-clause-longest : goal.returns-clause-longest
returns-clause-longest c =
    digits_other c.args.text.now c.in-Some.rest.now c.in-Some.byte.now c.in-Some.ensures.cases.0
    (sym c.is_ascii_digit.ensures.value ∙ c.if-is_ascii_digit.false)

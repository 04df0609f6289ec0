use Rattle.std.proofs.Common.{sym, ◌∙◌}
use Rattle.iso_texts.proofs.IsoLongestLemmas.{iso_none, iso_some, iso_other}
use Rattle.iso_texts.proofs.fault.iso_standing.Goals as goal

pub returns-in_default : goal.returns-in_default
returns-in_default c = record { longest = iso_none c.args.text.now c.in_default.ensures.cases }

pub returns-then-is_sign : goal.returns-then-is_sign
returns-then-is_sign c =
    let sign = sym c.is_sign.ensures ∙ c.if-is_sign.true in
    record {
      longest =
          iso_some c.args.text.now c.in-Some.rest.now c.in-Some.byte.now c.digits_standing.result c.in-Some.ensures.cases.0
          (c.digits_standing.ensures.longest c.in-Some.byte.now sign);
    }

pub returns : goal.returns
returns c = record {
  longest =
      iso_other c.args.text.now c.in-Some.rest.now c.in-Some.byte.now c.plain_standing.result c.in-Some.ensures.cases.0
      (sym c.is_sign.ensures ∙ c.if-is_sign.false) c.plain_standing.ensures.longest;
}

use Rattle.std.proofs.Common.{subst}
use Rattle.std.specs.Prelude.{SomeIff}
use Rattle.offset_times.specs.Local.{Local}
use Rattle.rfc3339.specs.Texts.{HasText, fixed_text_at}
use Rattle.stamps.proofs.StyleLemmas.{text_at_offset, no_text_at}
use Rattle.stamps.proofs.style.text_at.Goals as goal

pub returns-in-Some-clause-text : goal.returns-in-Some-clause-text
returns-in-Some-clause-text c =
    let r = c.to_rfc3339_nanos_at.result in
    text_at_offset c.args.at c.args.offset r
    (subst (λ (z : Local). SomeIff r (HasText z) (fixed_text_at z)) c.in-Some.ensures.value.1 c.to_rfc3339_nanos_at.ensures.text)

pub returns-in-None-clause-text : goal.returns-in-None-clause-text
returns-in-None-clause-text c = no_text_at c.args.at c.args.offset c.in-None.ensures.value

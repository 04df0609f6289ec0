use Rattle.std.proofs.Common.{inl, inr}
use Rattle.duration_texts.proofs.ShortLemmas.{short_text-some}
use Rattle.duration_texts.proofs.short_texts.written_units.Goals as goal

pub returns-else-seconds-eq0-clause-text : goal.returns-else-seconds-eq0-clause-text
returns-else-seconds-eq0-clause-text c =
    short_text-some c.magnitude-seconds.result.0 c.magnitude-seconds.result.1 c.args.duration c.new-text.result c.push_sign.new.text c.push_units.new.text
    c.magnitude-seconds.ensures.seconds c.magnitude-seconds.ensures.nanoseconds
    (λ a b. elim c.else-seconds-eq0.either [
      | inl h ↦ h.1 b
      | inr h ↦ h a
    ])
    c.new-text.ensures c.push_sign.ensures.text c.push_units.ensures.text

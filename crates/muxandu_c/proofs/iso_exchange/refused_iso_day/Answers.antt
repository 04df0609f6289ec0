use Rattle.std.proofs.Common.{ap, ◌∙◌}
use Rattle.std.proofs.lemmas.Option.{same_Some}
use Rattle.iso_texts.specs.declared.parts.IsoParts.{IsoParts}
use Rattle.muxandu_c.specs.Answers.{refused_day}
use Rattle.muxandu_c.proofs.iso_exchange.refused_iso_day.Goals as goal

pub returns-in-Some : goal.returns-in-Some
returns-in-Some c = λ p. λ h.
    c.refused_number.ensures ∙ ap (λ (q : IsoParts). refused_day q.day) (same_Some c.in-Some.parts p (c.in-Some.ensures.equation p h))

pub returns-in-None : goal.returns-in-None
returns-in-None c = λ p. λ h. let no = c.in-None.ensures.equation p h in absurd cc

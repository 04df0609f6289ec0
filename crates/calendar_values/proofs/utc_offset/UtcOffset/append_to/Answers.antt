use Rattle.std.proofs.Common.{◌≡◌, ◌∙◌, [], ◌∷◌, ◌++◌, unsigned_abs, ap, refl, append_assoc, FitsSigned, w8, to_z-of_z, rules}
use Rattle.std.specs.Prelude.{codes}
use Rattle.calendar_values.specs.Digits.{last_digits}
use Rattle.calendar_values.specs.Texts.{offset_text}
use Rattle.calendar_values.proofs.OffsetLemmas.{sign_text, sign_text-negative, sign_text-not_negative, offset_text-parts}
use Rattle.calendar_values.proofs.utc_offset.UtcOffset.append_to.Goals as goal
use Rattle.calendar_values.proofs.utc_offset.UtcOffset.append_to.Goals.{then-is_negative, else-is_negative}

pub returns-clause-text : goal.returns-clause-text
returns-clause-text c =
    let h : FitsSigned w8 c.self.inside.hours = search rules in
    let m : FitsSigned w8 c.self.inside.minutes = search rules in
    let s : FitsSigned w8 c.self.inside.seconds = search rules in
    let mark : c.if-is_negative.sign ∷ [] ≡ sign_text c.args.self =
    elim c.if-is_negative.branch [
      | then-is_negative w ↦ ap (λ b. b ∷ []) w.sign-is ∙ sign_text-negative c.args.self (w.if-is_negative.ensures.0 (search rules))
      | else-is_negative w ↦ ap (λ b. b ∷ []) w.sign-is ∙ sign_text-not_negative c.args.self w.if-is_negative.ensures.1
    ]
    in
    let hours = simp to_z-of_z at c.unsigned_abs.ensures.value in
    let minutes = simp to_z-of_z at c.unsigned_abs-2.ensures.value in
    let seconds = simp to_z-of_z at c.unsigned_abs-3.ensures.value in
    let shown : offset_text c.args.self ≡ sign_text c.args.self ++ last_digits 2 (unsigned_abs c.self.inside.hours) ++ codes ":" ++
    last_digits 2 (unsigned_abs c.self.inside.minutes) ++ codes ":" ++ last_digits 2 (unsigned_abs c.self.inside.seconds) =
    rw (← c.self.view_is) (offset_text-parts _ _ _ c.self.invariant) in
    rw (c.push_part-3.ensures.value, c.push_part-2.ensures.value, c.push_part.ensures.value, hours, minutes, seconds, shown, ← mark) (simp append_assoc refl)

-- The front of a text that items read spells a choice of them.
use Rattle.std.proofs.Common.{◌≡◌, ℕ, false, List, [], ◌∷◌, ◌++◌, length, refl, sym, ap, ◌∙◌, append_assoc}
use Rattle.std.specs.Prelude.{IsTrue, None, Ok}
use Rattle.rfc3339.specs.FormLemmas.{bind_some, mark_takes}
use Rattle.format_descriptions.specs.Choices.{IsChoice}
use Rattle.format_descriptions.specs.Groups.{has_no_group}
use Rattle.format_descriptions.specs.Read.{item_at, front_of, read_from, with_part}
use Rattle.format_descriptions.specs.Spelled.{Spells}
use Rattle.format_descriptions.specs.declared.item.Item.{Item}
use Rattle.format_descriptions.specs.declared.item.Item.TheVariants.{Byte, Part, Optional, First, Or}
use Rattle.format_descriptions.specs.declared.parts.Parts.{Parts}
use Rattle.format_descriptions.proofs.ChoiceLemmas.{choice-no_group, first-choices-taken, taken-choice}
use Rattle.format_descriptions.proofs.SpelledComponentLemmas.{component-taken}
use Rattle.format_descriptions.proofs.SpelledLemmas.{going-takes, given-takes, same-read}

-- the bytes that items spell, and those after them
abbrev SpellsFront : List Item → List ℕ → List ℕ → Parts → Parts → Type 0
SpellsFront items text rest p q = (front : List ℕ) × (text ≡ front ++ rest) × Spells items front p q

flat-spelled : (items : List Item) (text rest : List ℕ) (p q : Parts) → IsTrue (has_no_group items)
    → read_from items 0 (length items) None text p ≡ Ok (q, rest) → SpellsFront items text rest p q
unfolding read_from item_at
flat-spelled [] text rest p q flat h =
    let pair : (p, text) ≡ (q, rest) = cc in
    ([], ap (λ (z : Parts × List ℕ). z.1) pair, (refl, ap (λ (z : Parts × List ℕ). z.0) pair))
flat-spelled (Byte byte ∷ items) text rest p q flat h =
    let went = going-takes text _ _ (q, rest) h in
    let byte_read = bind_some _ _ _ went.1 in
    let pair : (p, byte_read.0) ≡ went.0 = cc in
    let others = flat-spelled items byte_read.0 rest p q flat (same-read items (length items) (p, byte_read.0) went.0 (q, rest) pair went.2) in
    (byte ∷ others.0, mark_takes byte text byte_read.0 byte_read.1 ∙ ap (λ (z : List ℕ). byte ∷ z) others.1, (others.0, refl, others.2))
flat-spelled (Part c ∷ items) text rest p q flat h =
    let went = going-takes text _ _ (q, rest) h in
    let read = bind_some _ _ _ went.1 in
    let given = given-takes c p read.0 went.0 _ refl read.2 in
    let spelled = component-taken c text read.0.0 read.0.1 read.1 in
    let others =
    flat-spelled items read.0.1 rest (with_part c read.0.0 p) q flat
    (same-read items (length items) (with_part c read.0.0 p, read.0.1) went.0 (q, rest) (sym given.1) went.2)
    in (
      spelled.piece ++ others.0,
      spelled.front ∙ ap (λ (z : List ℕ). spelled.piece ++ z) others.1 ∙ sym (append_assoc spelled.piece others.0 rest),
      (read.0.0, spelled.piece, others.0, refl, spelled.is, given.0, others.2),
    )
flat-spelled (Optional size ∷ items) text rest p q flat h = absurd cc
flat-spelled (First size ∷ items) text rest p q flat h = absurd cc
flat-spelled (Or size ∷ items) text rest p q flat h = absurd cc

pub fronts-spell-choices : (items : List Item) (text rest : List ℕ) (p q : Parts) → front_of items text p ≡ Ok (q, rest)
    → (chosen : List Item) × (front : List ℕ) × IsChoice false items chosen × (text ≡ front ++ rest) × Spells chosen front p q
fronts-spell-choices items text rest p q h =
    let taken = first-choices-taken items text rest p q h in
    let choice = taken-choice _ _ _ _ _ _ _ taken.1 in
    let spelled = flat-spelled taken.0 text rest p q (choice-no_group false items taken.0 choice) taken.2 in
    (taken.0, spelled.0, choice, spelled.1, spelled.2)

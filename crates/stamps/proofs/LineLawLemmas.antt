-- Lines, one after another, and their stamps.
use Rattle.std.proofs.Common.{◌≡◌, inl, inr, refl, sym, ap, ◌∙◌, ℕ, false, nat_eq, List, [], ◌∷◌, ◌++◌, map, append_assoc, arith}
use Rattle.std.specs.List.{concat}
use Rattle.std.proofs.lemmas.Bool.Decides.{nat_tests}
use Rattle.std.proofs.lemmas.Bool.{cases_Bool}
use Rattle.std.proofs.lemmas.List.{append-nil}
use Rattle.std.proofs.lemmas.List.Folds.{concat-append}
use Rattle.line_devices.specs.LineLemmas.{whole_lines_of-parts}
use Rattle.line_devices.specs.LineParts.{ended_from, rest_from}
use Rattle.line_devices.specs.Lines.{pieces_of, unless_empty}
use Rattle.stamps.specs.Decisions.{is_first, state_after}
use Rattle.stamps.specs.Laws.{fed, line_texts}
use Rattle.stamps.specs.Runs.{last_of}
use Rattle.stamps.specs.declared.decide.State.{State}
use Rattle.stamps.specs.declared.task.Task.{Task}
use Rattle.stamps.proofs.RunLemmas.{last_of-pieces}

-- behind a line no line is the first
pub later : (task : Task) (state : State) (line : List ℕ) → is_first (state_after task state line) ≡ false
unfolding state_after
later task state line = grind (arith, nat_tests)

-- the lines with their line feeds, and what stands behind them, are the input
pub joined : (piece xs : List ℕ) → concat (map fed (ended_from piece xs)) ++ rest_from piece xs ≡ piece ++ xs
unfolding ended_from rest_from
joined piece [] = sym (append-nil piece)
joined piece (byte ∷ xs) =
    elim (cases_Bool (nat_eq byte 10)) [
      | inl t ↦
          let is : byte ≡ 10 = grind (arith, nat_tests) in
          rw t (append_assoc (fed piece) (concat (map fed (ended_from [] xs))) (rest_from [] xs) ∙ ap (λ (z : List ℕ). fed piece ++ z) (joined [] xs)
          ∙ append_assoc piece (10 ∷ []) xs ∙ ap (λ (z : ℕ). piece ++ z ∷ xs) (sym is))
      | inr t ↦ rw t (joined (piece ++ byte ∷ []) xs ∙ append_assoc piece (byte ∷ []) xs)
    ]

concat-unless_empty : (piece : List ℕ) → concat (unless_empty piece) ≡ piece
concat-unless_empty [] = refl
concat-unless_empty (byte ∷ piece) = append-nil (byte ∷ piece)

pub line_texts-whole : (input : List ℕ) → concat (line_texts input) ≡ input
line_texts-whole input =
    let lines = ended_from [] input in
    let piece = rest_from [] input in
    ap (λ (z : List (List ℕ)). concat (map fed z ++ unless_empty (last_of (pieces_of input)))) (whole_lines_of-parts input)
    ∙ ap (λ (z : List ℕ). concat (map fed lines ++ unless_empty z)) (last_of-pieces input)
    ∙ concat-append (map fed lines) (unless_empty piece) ∙ ap (λ (z : List ℕ). concat (map fed lines) ++ z) (concat-unless_empty piece)
    ∙ joined [] input

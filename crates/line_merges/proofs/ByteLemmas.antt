-- The lines of a log have all its bytes.
use Rattle.std.proofs.Common.{◌≡◌, ℕ, true, nat_eq, List, [], ◌∷◌, ◌++◌, map, refl, sym, ap, ◌∙◌, inl, inr, append_assoc}
use Rattle.std.proofs.Common.{append-nil}
use Rattle.std.proofs.lemmas.Bool.{cases_Bool, eqb-true}
use Rattle.std.specs.List.{concat}
use Rattle.line_devices.specs.LineParts.{ended_from, rest_from}
use Rattle.line_merges.proofs.LineLemmas.{lines_from-parts}
use Rattle.line_merges.specs.Instants.{LogReading}
use Rattle.line_merges.specs.Lines.{Line, line_at, line_text, lines_at, log_lines, first_place, place_after, reading_after}
use Rattle.line_merges.specs.declared.logs.Place.{Place}

-- a line with its line feed
abbrev fed : List ℕ → List ℕ
fed line = line ++ 10 ∷ []

pieces-joined : (piece bytes : List ℕ) → concat (map fed (ended_from piece bytes)) ++ rest_from piece bytes ≡ piece ++ bytes
unfolding ended_from rest_from
pieces-joined piece [] = sym (append-nil piece)
pieces-joined piece (byte ∷ bytes) =
    elim (cases_Bool (nat_eq byte 10)) [
      | inl t ↦
          rw t (append_assoc (fed piece) (concat (map fed (ended_from [] bytes))) (rest_from [] bytes)
          ∙ ap (λ (z : List ℕ). fed piece ++ z) (pieces-joined [] bytes)
          ∙ append_assoc piece (10 ∷ []) bytes
          ∙ ap (λ (z : ℕ). piece ++ z ∷ bytes) (sym (eqb-true byte 10 t)))
      | inr t ↦ rw t (pieces-joined (piece ++ byte ∷ []) bytes ∙ append_assoc piece (byte ∷ []) bytes)
    ]

lines_at-joined : {M : Type 0} (instant : LogReading M) (place : Place) (lines : List (List ℕ)) (rest : List ℕ)
    → concat (map line_text (lines_at instant place lines rest)) ≡ concat (map fed lines) ++ rest
unfolding lines_at
lines_at-joined instant place [] [] = refl
lines_at-joined instant place [] (byte ∷ rest) = append-nil ((byte ∷ rest) ++ []) ∙ append-nil (byte ∷ rest)
lines_at-joined instant place (line ∷ lines) rest =
    ap (λ (z : List ℕ). fed line ++ z) (lines_at-joined (reading_after instant (line_at instant place line true)) (place_after place
    (line_at instant place line true)) lines rest)
    ∙ sym (append_assoc (fed line) (concat (map fed lines)) rest)

pub lines-keep : {M : Type 0} (instant : LogReading M) (log : List ℕ) → concat (map line_text (log_lines instant log)) ≡ log
unfolding log_lines
lines-keep instant log =
    ap (λ (z : List Line). concat (map line_text z)) (lines_from-parts instant first_place log)
    ∙ (lines_at-joined instant first_place (ended_from [] log) (rest_from [] log) ∙ pieces-joined [] log)

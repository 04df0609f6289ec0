-- The texts of rules that are written derive them.
use Rattle.std.proofs.Common.{◌≡◌, inl, inr, refl, ℕ, ◌==◌, Bool, List, [], ◌∷◌, length, arith}
use Rattle.std.specs.List.{list_all}
use Rattle.std.proofs.lemmas.Bool.{cases_Bool}
use Rattle.std.proofs.lemmas.Bool.Decides.{nat_tests}
use Rattle.zone_files.specs.Pieces.{past}

-- nothing follows the bytes in front that pass exactly if all pass
pub all_front : (test : ℕ → Bool) (text : List ℕ) → (length (past test text) == 0) ≡ list_all test text
all_front test [] = refl
all_front test (byte ∷ bytes) =
    elim (cases_Bool (test byte)) [
      | inl t ↦ rw t (all_front test bytes)
      | inr t ↦ rw t (grind (arith, nat_tests))
    ]

-- The bytes in front of a text that pass a test, counted one by one.
use Rattle.std.proofs.Common.{◌≡◌, inl, inr, ℕ, suc, ◌+◌, ◌<◌, ◌≤◌, Bool, true, false, List, [], ◌∷◌, length, take, drop, get_or}
use Rattle.std.proofs.Common.{refl, ap, arith}
use Rattle.std.proofs.lemmas.Bool.{cases_Bool}
use Rattle.std.proofs.lemmas.List.{drop_more, drop_all}
use Rattle.zone_files.specs.Pieces.{front, past}

-- the count ends at a byte that does not pass
pub front-stops : (test : ℕ → Bool) (k : ℕ) (text : List ℕ) (d : ℕ) (passes : Bool) → k < length text → passes ≡ test (get_or text k d) → passes ≡ false
    → k + length (front test (drop k text)) ≡ length (front test text) → k ≡ length (front test text)
front-stops test k text d passes low e stops before =
    let here : length (front test (drop k text)) ≡ 0 = rw (drop_more text k d low, ← e, stops) refl in
    omega (arith, here, before)

-- it goes on at one that does
pub front-goes_on : (test : ℕ → Bool) (k : ℕ) (text : List ℕ) (d : ℕ) (passes : Bool) → k < length text → passes ≡ test (get_or text k d) → passes ≡ true
    → k + length (front test (drop k text)) ≡ length (front test text) → k + 1 + length (front test (drop (k + 1) text)) ≡ length (front test text)
front-goes_on test k text d passes low e goes_on before =
    let here : length (front test (drop k text)) ≡ suc (length (front test (drop (k + 1) text))) = rw (drop_more text k d low, ← e, goes_on) refl in
    omega (arith, here, before)

-- it ends with the text
pub front-all : (test : ℕ → Bool) (k : ℕ) (text : List ℕ) → length text ≤ k → k ≤ length text
    → k + length (front test (drop k text)) ≡ length (front test text) → length text ≡ length (front test text)
front-all test k text end low before =
    let here : length (front test (drop k text)) ≡ 0 = rw (drop_all k text end) refl in
    omega (arith, here, before)

-- the counted bytes, and those after them
pub take-front : (test : ℕ → Bool) (text : List ℕ) → take (length (front test text)) text ≡ front test text
take-front test [] = refl
take-front test (byte ∷ bytes) =
    elim (cases_Bool (test byte)) [
      | inl t ↦ rw t (ap (λ (xs : List ℕ). byte ∷ xs) (take-front test bytes))
      | inr t ↦ rw t refl
    ]

pub drop-front : (test : ℕ → Bool) (text : List ℕ) → drop (length (front test text)) text ≡ past test text
drop-front test [] = refl
drop-front test (byte ∷ bytes) =
    elim (cases_Bool (test byte)) [
      | inl t ↦ rw t (drop-front test bytes)
      | inr t ↦ rw t refl
    ]

pub ruleset pieces = (take-front, drop-front)

-- What stands in front of a text, taken off and put on again.
use Rattle.std.proofs.Common.{◌≡◌, inl, inr, refl, ap, ◌∙◌, ℕ, zero, suc, ◌<◌, ◌==◌, arith}
use Rattle.std.proofs.Common.{Bool, true, false, List, [], ◌∷◌, ◌++◌, length}
use Rattle.std.specs.Prelude.{IsTrue, ⊤}
use Rattle.std.specs.List.{list_all}
use Rattle.std.proofs.lemmas.Bool.{and_parts, cases_Bool, eqb-true}
use Rattle.std.proofs.lemmas.Bool.Decides.{nat_tests}
use Rattle.duration_texts.specs.Pieces.{front, past, blanks, is_blank}

-- the text does not begin with a byte that passes
abbrev pub Stops : (ℕ → Bool) → List ℕ → Type 0
Stops test [] = ⊤
Stops test (byte ∷ bytes) = test byte ≡ false

pub front-past : (test : ℕ → Bool) (text : List ℕ) → text ≡ front test text ++ past test text
front-past test [] = refl
front-past test (byte ∷ bytes) =
    elim (cases_Bool (test byte)) [
      | inl t ↦ rw t (ap (λ (xs : List ℕ). byte ∷ xs) (front-past test bytes))
      | inr t ↦ rw t refl
    ]

pub front-passes : (test : ℕ → Bool) (text : List ℕ) → IsTrue (list_all test (front test text))
front-passes test [] = refl
front-passes test (byte ∷ bytes) =
    elim (cases_Bool (test byte)) [
      | inl t ↦ rw t (rw t (front-passes test bytes))
      | inr t ↦ rw t refl
    ]

front-none : (test : ℕ → Bool) (text : List ℕ) → Stops test text → front test text ≡ []
front-none test [] h = refl
front-none test (byte ∷ bytes) h = rw h refl

past-none : (test : ℕ → Bool) (text : List ℕ) → Stops test text → past test text ≡ text
past-none test [] h = refl
past-none test (byte ∷ bytes) h = rw h refl

pub front-append : (test : ℕ → Bool) (first rest : List ℕ) → IsTrue (list_all test first) → Stops test rest → front test (first ++ rest) ≡ first
front-append test [] rest all stops = front-none test rest stops
front-append test (byte ∷ bytes) rest all stops =
    let parts = and_parts (test byte) (list_all test bytes) all in
    rw parts.0 (ap (λ (xs : List ℕ). byte ∷ xs) (front-append test bytes rest parts.1 stops))

pub past-append : (test : ℕ → Bool) (first rest : List ℕ) → IsTrue (list_all test first) → Stops test rest → past test (first ++ rest) ≡ rest
past-append test [] rest all stops = past-none test rest stops
past-append test (byte ∷ bytes) rest all stops =
    let parts = and_parts (test byte) (list_all test bytes) all in
    rw parts.0 (past-append test bytes rest parts.1 stops)

-- blanks in front
pub front-blanks : (text : List ℕ) → front is_blank text ≡ blanks (length (front is_blank text))
front-blanks [] = refl
front-blanks (byte ∷ bytes) =
    elim (cases_Bool (is_blank byte)) [
      | inl t ↦ rw t (rw (eqb-true byte 32 t) (ap (λ (xs : List ℕ). 32 ∷ xs) (front-blanks bytes)))
      | inr t ↦ rw t refl
    ]

pub blanks-past : (text : List ℕ) → text ≡ blanks (length (front is_blank text)) ++ past is_blank text
blanks-past text = front-past is_blank text ∙ ap (λ (xs : List ℕ). xs ++ past is_blank text) (front-blanks text)

pub past-blanks : (n : ℕ) (rest : List ℕ) → Stops is_blank rest → past is_blank (blanks n ++ rest) ≡ rest
past-blanks zero rest stops = past-none is_blank rest stops
past-blanks (suc n) rest stops = past-blanks n rest stops

-- blanks, or what follows them, do not begin with a byte that is no blank
pub stops-blanks : (test : ℕ → Bool) (n : ℕ) (rest : List ℕ) → test 32 ≡ false → Stops test rest → Stops test (blanks n ++ rest)
stops-blanks test zero rest blank stops = stops
stops-blanks test (suc n) rest blank stops = blank

-- a text that begins with bytes that pass begins with none that passes another test
pub stops-other : (test other : ℕ → Bool) (first rest : List ℕ) → ((byte : ℕ) → test byte ≡ true → other byte ≡ false) → 0 < length first
    → IsTrue (list_all test first) → Stops other (first ++ rest)
stops-other test other [] rest apart some all = absurd (omega (arith, some))
stops-other test other (byte ∷ bytes) rest apart some all = apart byte (and_parts (test byte) (list_all test bytes) all).0

pub no_length : (xs : List ℕ) → (length xs == 0) ≡ true → xs ≡ []
no_length [] e = refl
no_length (x ∷ xs) e = absurd (grind (arith, nat_tests))

pub some_length : (xs : List ℕ) → (length xs == 0) ≡ false → 0 < length xs
some_length [] e = absurd cc
some_length (x ∷ xs) e = omega arith

pub length-some : (xs : List ℕ) → 0 < length xs → (length xs == 0) ≡ false
length-some [] h = absurd (omega (arith, h))
length-some (x ∷ xs) h = grind (arith, nat_tests)

-- What stands in front of a text, taken off and put on again.
use Rattle.std.proofs.Common.{◌≡◌, inl, inr, refl, ap, ℕ, ◌<◌, ◌==◌, arith}
use Rattle.std.proofs.Common.{Bool, true, false, List, [], ◌∷◌, ◌++◌, length}
use Rattle.std.specs.Prelude.{IsTrue, ⊤}
use Rattle.std.specs.List.{list_all}
use Rattle.std.proofs.lemmas.Bool.{and_parts, cases_Bool}
use Rattle.std.proofs.lemmas.Bool.Decides.{nat_tests}
use Rattle.zone_files.specs.Pieces.{front, past}

-- the text does not begin with a byte that passes
abbrev pub Stops : (ℕ → Bool) → List ℕ → Type 0
Stops test [] = ⊤
Stops test (byte ∷ bytes) = test byte ≡ false

pub front-past : (test : ℕ → Bool) (text : List ℕ) → text ≡ front test text ++ past test text
front-past test [] = refl
front-past test (byte ∷ bytes) =
    elim (cases_Bool (test byte)) [
      | inl t ↦ rw t (ap (λ (xs : List ℕ). byte ∷ xs) (front-past test bytes))
      | inr t ↦ rw t refl
    ]

pub front-passes : (test : ℕ → Bool) (text : List ℕ) → IsTrue (list_all test (front test text))
front-passes test [] = refl
front-passes test (byte ∷ bytes) =
    elim (cases_Bool (test byte)) [
      | inl t ↦ rw t (rw t (front-passes test bytes))
      | inr t ↦ rw t refl
    ]

front-none : (test : ℕ → Bool) (text : List ℕ) → Stops test text → front test text ≡ []
front-none test [] h = refl
front-none test (byte ∷ bytes) h = rw h refl

past-none : (test : ℕ → Bool) (text : List ℕ) → Stops test text → past test text ≡ text
past-none test [] h = refl
past-none test (byte ∷ bytes) h = rw h refl

pub front-append : (test : ℕ → Bool) (first rest : List ℕ) → IsTrue (list_all test first) → Stops test rest → front test (first ++ rest) ≡ first
front-append test [] rest all stops = front-none test rest stops
front-append test (byte ∷ bytes) rest all stops =
    let parts = and_parts (test byte) (list_all test bytes) all in
    rw parts.0 (ap (λ (xs : List ℕ). byte ∷ xs) (front-append test bytes rest parts.1 stops))

pub past-append : (test : ℕ → Bool) (first rest : List ℕ) → IsTrue (list_all test first) → Stops test rest → past test (first ++ rest) ≡ rest
past-append test [] rest all stops = past-none test rest stops
past-append test (byte ∷ bytes) rest all stops =
    let parts = and_parts (test byte) (list_all test bytes) all in
    rw parts.0 (past-append test bytes rest parts.1 stops)

-- a text that begins with bytes that pass begins with none that passes another test
pub stops-other : (test other : ℕ → Bool) (first rest : List ℕ) → ((byte : ℕ) → test byte ≡ true → other byte ≡ false) → 0 < length first
    → IsTrue (list_all test first) → Stops other (first ++ rest)
stops-other test other [] rest apart some all = absurd (omega (arith, some))
stops-other test other (byte ∷ bytes) rest apart some all = apart byte (and_parts (test byte) (list_all test bytes) all).0

pub no_length : (xs : List ℕ) → (length xs == 0) ≡ true → xs ≡ []
no_length [] e = refl
no_length (x ∷ xs) e = absurd (grind (arith, nat_tests))

pub some_length : (xs : List ℕ) → (length xs == 0) ≡ false → 0 < length xs
some_length [] e = absurd cc
some_length (x ∷ xs) e = omega arith

pub length-some : (xs : List ℕ) → 0 < length xs → (length xs == 0) ≡ false
length-some [] h = absurd (omega (arith, h))
length-some (x ∷ xs) h = grind (arith, nat_tests)

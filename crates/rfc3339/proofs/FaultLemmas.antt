-- The places that the bytes of a text lead through.
use Rattle.std.proofs.Common.{◌≡◌, ◌≢◌, inl, inr, ℕ, zero, suc, ◌+◌, ◌≤◌, ◌<◌, Bool, true, false, nat_eq, List, [], ◌∷◌, ◌++◌, length, take, get_or}
use Rattle.std.proofs.Common.{refl, ap, ◌∙◌, arith}
use Rattle.std.specs.Prelude.{◌==◌, ◌&&◌, codes, drop, nat_lt, if◌then◌else◌}
use Rattle.std.proofs.lemmas.List.{drop_more, drop_all}
use Rattle.std.proofs.lemmas.Bool.Decides.{nat_tests}
use Rattle.std.proofs.lemmas.Bool.{cases_Bool, eqb-true, and_parts}
use Rattle.rfc3339.specs.Faults.{may_stand, place_in_offset, next_place, standing}

-- the place after all bytes
unfoldable pub place_after : ℕ → List ℕ → ℕ
place_after place [] = place
place_after place (byte ∷ text) = place_after (next_place place byte) text

pub next_place-nowhere : (byte : ℕ) → next_place 28 byte ≡ 28
unfolding next_place
next_place-nowhere byte = refl

pub place_after-nowhere : (text : List ℕ) → place_after 28 text ≡ 28
unfolding place_after
place_after-nowhere [] = refl
place_after-nowhere (byte ∷ text) = rw (next_place-nowhere byte) (place_after-nowhere text)

-- by what is next
pub place_after-next : (place byte next : ℕ) (text : List ℕ) → next_place place byte ≡ next → place_after place (byte ∷ text) ≡ place_after next text
unfolding place_after
place_after-next place byte next text e = ap (λ (z : ℕ). place_after z text) e

pub place_after-append : (place : ℕ) (first second : List ℕ) → place_after place (first ++ second) ≡ place_after (place_after place first) second
unfolding place_after
place_after-append place [] second = refl
place_after-append place (byte ∷ first) second = place_after-append (next_place place byte) first second

-- ---- how many bytes may stand where they do

-- the bytes before may
pub place_after-standing : (place : ℕ) (text : List ℕ) → place ≢ 28 → place_after place (take (standing place text) text) ≢ 28
unfolding standing place_after
place_after-standing place [] h = h
place_after-standing place (byte ∷ text) h =
    elim (cases_Bool (nat_eq (next_place place byte) 28)) [
      | inl t ↦ rw t h
      | inr t ↦
          let goes_on : next_place place byte ≢ 28 = grind (arith, nat_tests) in
          rw t (place_after-standing (next_place place byte) text goes_on)
    ]

-- and no more do
pub standing-longest : (place : ℕ) (text : List ℕ) (n : ℕ) → n ≤ length text → place_after place (take n text) ≢ 28 → n ≤ standing place text
unfolding standing place_after
standing-longest place [] n low h = omega arith
standing-longest place (byte ∷ text) zero low h = omega arith
standing-longest place (byte ∷ text) (suc n) low h =
    elim (cases_Bool (nat_eq (next_place place byte) 28)) [
      | inl t ↦
          let lost : place_after (next_place place byte) (take n text) ≡ 28 =
          ap (λ (z : ℕ). place_after z (take n text)) (eqb-true (next_place place byte) 28 t) ∙ place_after-nowhere (take n text) in
          absurd (h lost)
      | inr t ↦ rw t (omega (arith, standing-longest (next_place place byte) text n (omega arith) h))
    ]

-- ---- byte by byte

-- a byte that may not stand there
pub standing-stops : (first place k : ℕ) (text : List ℕ) (d next : ℕ) → k < length text → next ≡ next_place place (get_or text k d) → next ≡ 28
    → k + standing place (drop k text) ≡ standing first text → k ≡ standing first text
unfolding standing
standing-stops first place k text d next low e stops before =
    let here : standing place (drop k text) ≡ 0 = rw (drop_more text k d low, ← e, stops) refl in
    omega (arith, here, before)

-- a byte that may
pub standing-goes_on : (first place k : ℕ) (text : List ℕ) (d next : ℕ) → k < length text → next ≡ next_place place (get_or text k d) → next ≢ 28
    → k + standing place (drop k text) ≡ standing first text → k + 1 + standing next (drop (k + 1) text) ≡ standing first text
unfolding standing
standing-goes_on first place k text d next low e goes_on before =
    let other : nat_eq next 28 ≡ false = grind (arith, nat_tests) in
    let here : standing place (drop k text) ≡ suc (standing next (drop (k + 1) text)) = rw (drop_more text k d low, ← e, other) refl in
    omega (arith, here, before)

-- the end of the text
pub standing-all : (first place k : ℕ) (text : List ℕ) → length text ≤ k → k ≤ length text → k + standing place (drop k text) ≡ standing first text
    → length text ≡ standing first text
unfolding standing
standing-all first place k text end low before =
    let here : standing place (drop k text) ≡ 0 = rw (drop_all k text end) refl in
    omega (arith, here, before)

-- ---- each place leads to the end

-- bytes that lead from a place to the end
abbrev pub bytes_to_end : ℕ → List ℕ
bytes_to_end place =
    if nat_lt place 20 then drop place (codes "0000-00-00T00:00:00Z")
    else (if nat_lt place 22 then codes "0Z" else drop place (codes "......................00:00"))

abbrev are_all_below : ℕ → (ℕ → Bool) → Bool
are_all_below zero f = true
are_all_below (suc n) f = f n && are_all_below n f

one_of_all : (n : ℕ) (f : ℕ → Bool) (k : ℕ) → are_all_below n f ≡ true → k < n → f k ≡ true
one_of_all zero f k all low = absurd (omega arith)
one_of_all (suc n) f k all low =
    let both = and_parts (f n) (are_all_below n f) all in
    elim (cases_Bool (nat_eq k n)) [
      | inl t ↦ rw (eqb-true k n t) both.0
      | inr t ↦ let lower : k < n = grind (arith, nat_tests) in one_of_all n f k both.1 lower
    ]

each_leads : are_all_below 28 (λ place. place_after place (bytes_to_end place) == 27) ≡ true
unfolding place_after next_place may_stand place_in_offset
each_leads = refl

pub place_after-to_end : (place : ℕ) → place < 28 → place_after place (bytes_to_end place) ≡ 27
place_after-to_end place low =
    eqb-true (place_after place (bytes_to_end place)) 27
    (one_of_all 28 (λ place. place_after place (bytes_to_end place) == 27) place each_leads low)

-- no place is past `nowhere`
pub next_place-at_most : (place byte : ℕ) → next_place place byte ≤ 28
unfolding next_place place_in_offset
next_place-at_most place byte = grind (arith, nat_tests)

pub place_after-at_most : (place : ℕ) (text : List ℕ) → place ≤ 28 → place_after place text ≤ 28
unfolding place_after
place_after-at_most place [] low = low
place_after-at_most place (byte ∷ text) low = place_after-at_most (next_place place byte) text (next_place-at_most place byte)

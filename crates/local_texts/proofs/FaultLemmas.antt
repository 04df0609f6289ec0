-- The bytes that are valid at their places are those with which a date-time without an offset begins.
use Rattle.std.proofs.Common.{◌≡◌, inl, inr, ℕ, zero, suc, ◌+◌, ◌<◌, ◌≤◌, Bool, true, false, List, [], ◌∷◌, ◌++◌, length, take, drop, get_or}
use Rattle.std.proofs.Common.{refl, ap, ◌∙◌, arith}
use Rattle.std.proofs.lemmas.Bool.{cases_Bool}
use Rattle.std.proofs.lemmas.List.{drop_more, drop_all}
use Rattle.local_texts.specs.LocalFaults.{is_valid_at, valid_bytes}

-- ---- byte by byte

-- a byte that is not valid there
pub valid_bytes-stops : (place k : ℕ) (text : List ℕ) (d : ℕ) (valid : Bool) → k < length text → valid ≡ is_valid_at (place + k) (get_or text k d)
    → valid ≡ false → k + valid_bytes (place + k) (drop k text) ≡ valid_bytes place text → k ≡ valid_bytes place text
unfolding valid_bytes
valid_bytes-stops place k text d valid low e stops before =
    let here : valid_bytes (place + k) (drop k text) ≡ 0 = rw (drop_more text k d low, ← e, stops) refl in
    omega (arith, here, before)

-- a byte that is
pub valid_bytes-goes_on : (place k : ℕ) (text : List ℕ) (d : ℕ) (valid : Bool) → k < length text → valid ≡ is_valid_at (place + k) (get_or text k d)
    → valid ≡ true → k + valid_bytes (place + k) (drop k text) ≡ valid_bytes place text
    → k + 1 + valid_bytes (place + (k + 1)) (drop (k + 1) text) ≡ valid_bytes place text
unfolding valid_bytes
valid_bytes-goes_on place k text d valid low e goes_on before =
    let here : valid_bytes (place + k) (drop k text) ≡ suc (valid_bytes (place + k + 1) (drop (k + 1) text)) =
    rw (drop_more text k d low, ← e, goes_on) refl in
    let place_next : valid_bytes (place + k + 1) (drop (k + 1) text) ≡ valid_bytes (place + (k + 1)) (drop (k + 1) text) =
    ap (λ (n : ℕ). valid_bytes n (drop (k + 1) text)) (omega arith) in
    omega (arith, here, place_next, before)

-- the end of the text
pub valid_bytes-all : (place k : ℕ) (text : List ℕ) → length text ≤ k → k ≤ length text
    → k + valid_bytes (place + k) (drop k text) ≡ valid_bytes place text → length text ≡ valid_bytes place text
unfolding valid_bytes
valid_bytes-all place k text end low before =
    let here : valid_bytes (place + k) (drop k text) ≡ 0 = rw (drop_all k text end) refl in
    omega (arith, here, before)

-- ---- texts whose bytes are all valid

abbrev pub AreValid : ℕ → List ℕ → Type 0
AreValid place text = valid_bytes place text ≡ length text

pub valid_of : (place byte : ℕ) (text : List ℕ) → AreValid place (byte ∷ text) → (is_valid_at place byte ≡ true) × AreValid (place + 1) text
unfolding valid_bytes
valid_of place byte text e =
    elim (cases_Bool (is_valid_at place byte)) [
      | inl t ↦ let more = rw t at e in (t, omega (arith, more))
      | inr t ↦ let none = rw t at e in absurd (omega (arith, none))
    ]

pub valid_then : (place byte : ℕ) (text : List ℕ) → is_valid_at place byte ≡ true → AreValid (place + 1) text → AreValid place (byte ∷ text)
unfolding valid_bytes
valid_then place byte text t more = rw t (omega (arith, more))

-- those before the first that is not
pub valid-before : (place : ℕ) (text : List ℕ) → AreValid place (take (valid_bytes place text) text)
unfolding valid_bytes
valid-before place [] = refl
valid-before place (byte ∷ text) =
    elim (cases_Bool (is_valid_at place byte)) [
      | inl t ↦ rw t (rw t (ap suc (valid-before (place + 1) text)))
      | inr t ↦ rw t refl
    ]

-- and no more
pub valid-longest : (place : ℕ) (text rest : List ℕ) (n : ℕ) → n ≤ length text → AreValid place (take n text ++ rest) → n ≤ valid_bytes place text
unfolding valid_bytes
valid-longest place text rest zero low e = omega arith
valid-longest place [] rest (suc n) low e = absurd (omega (arith, low))
valid-longest place (byte ∷ text) rest (suc n) low e =
    let first = valid_of place byte (take n text ++ rest) e in
    rw first.0 (omega (arith, valid-longest (place + 1) text rest n (omega (arith, low)) first.1))

pub valid-append : (place : ℕ) (first second : List ℕ) → AreValid place first → AreValid (place + length first) second → AreValid place (first ++ second)
unfolding valid_bytes
valid-append place [] second a b = ap (λ (n : ℕ). valid_bytes n second) (omega arith) ∙ b
valid-append place (byte ∷ first) second a b =
    let head = valid_of place byte first a in
    let behind : AreValid (place + 1 + length first) second = ap (λ (n : ℕ). valid_bytes n second) (omega arith) ∙ b in
    valid_then place byte (first ++ second) head.0 (valid-append (place + 1) first second head.1 behind)

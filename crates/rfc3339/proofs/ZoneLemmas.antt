-- The bytes of an offset that `reading::zone` tests together, as the steps read them one by one.
use Rattle.std.proofs.Common.{◌≡◌, inl, inr, ℕ, ◌+◌, ◌-◌, ◌*◌, ◌≤◌, ◌<◌, ◌&&◌, Bool, true, false, nat_eq, List, [], ◌∷◌, length, take, drop, get_or}
use Rattle.std.proofs.Common.{Option, Some, None, refl, ap, ◌∙◌, arith}
use Rattle.std.specs.Prelude.{◌||◌, ◌⊎◌}
use Rattle.std.proofs.lemmas.Bool.Decides.{nat_tests}
use Rattle.std.specs.Char.{is_ascii_digit}
use Rattle.std.specs.Int.{IsInRange}
use Rattle.rfc3339.specs.Reading.{◌>>=◌, digit_at, two_digits_at, part_at, zone_at}
use Rattle.rfc3339.proofs.ByteLemmas.{take-rest, both, digit-range}

-- no byte is no offset, and `Z` or `z` is one
pub zone_at-none : (text : List ℕ) → length text < 1 → None ≡ zone_at text
unfolding zone_at
zone_at-none [] low = refl
zone_at-none (first ∷ rest) low = absurd (omega arith)

pub zone_at-utc : (text : List ℕ) → 1 ≤ length text → (get_or text 0 0 ≡ 90) ⊎ (get_or text 0 0 ≡ 122)
    → Some ((false, 0, 0), take (length text - 1) (drop 1 text)) ≡ zone_at text
unfolding zone_at
zone_at-utc [] low e = absurd (omega arith)
zone_at-utc (first ∷ rest) low (inl e) = rw (take-rest 1 (first ∷ rest), e) refl
zone_at-utc (first ∷ rest) low (inr e) = rw (take-rest 1 (first ∷ rest), e) refl

-- ---- any other begins with a sign and two digits

abbrev pub is_signed : ℕ → List ℕ → Bool
is_signed first rest = ((nat_eq first 43 || nat_eq first 45) && is_ascii_digit (get_or rest 0 0)) && is_ascii_digit (get_or rest 1 0)

not_utc : (first : ℕ) → ¬ (first ≡ 90) → ¬ (first ≡ 122) → (nat_eq first 90 || nat_eq first 122) ≡ false
not_utc first y z = grind (arith, nat_tests)

other_short : (first : ℕ) (rest : List ℕ) → ¬ (first ≡ 90) → ¬ (first ≡ 122) → length rest < 2 → None ≡ zone_at (first ∷ rest)
unfolding zone_at two_digits_at digit_at
other_short first [] y z few = choose (nat_eq first 43 || nat_eq first 45) refl where
  choose : (s : Bool) → (nat_eq first 43 || nat_eq first 45) ≡ s → None ≡ zone_at (first ∷ [])
  choose true e = rw (not_utc first y z, e) refl
  choose false e = rw (not_utc first y z, e) refl
other_short first (tens ∷ []) y z few = choose (nat_eq first 43 || nat_eq first 45) (is_ascii_digit tens) refl refl where
  choose : (s t : Bool) → (nat_eq first 43 || nat_eq first 45) ≡ s → is_ascii_digit tens ≡ t → None ≡ zone_at (first ∷ tens ∷ [])
  choose true true e f = rw (not_utc first y z, e, f) refl
  choose true false e f = rw (not_utc first y z, e, f) refl
  choose false t e f = rw (not_utc first y z, e) refl
other_short first (tens ∷ units ∷ rest) y z few = absurd (omega arith)

other_none : (first : ℕ) (rest : List ℕ) → ¬ (first ≡ 90) → ¬ (first ≡ 122) → 2 ≤ length rest → is_signed first rest ≡ false → None ≡ zone_at (first ∷ rest)
unfolding zone_at two_digits_at digit_at
other_none first (tens ∷ units ∷ rest) y z low e =
    choose (nat_eq first 43 || nat_eq first 45) (is_ascii_digit tens) (is_ascii_digit units) refl refl refl e where
      choose : (s t u : Bool) → (nat_eq first 43 || nat_eq first 45) ≡ s → is_ascii_digit tens ≡ t → is_ascii_digit units ≡ u →
          ((s && t) && u) ≡ false → None ≡ zone_at (first ∷ tens ∷ units ∷ rest)
      choose false t u f g h e = rw (not_utc first y z, f) refl
      choose true false u f g h e = rw (not_utc first y z, f, g) refl
      choose true true false f g h e = rw (not_utc first y z, f, g, h) refl
      choose true true true f g h e = absurd cc
other_none first [] y z low e = absurd (omega arith)
other_none first (tens ∷ []) y z low e = absurd (omega arith)

-- the minutes are read of what follows, if they are there
abbrev pub with_minute : ℕ → List ℕ → Option (ℕ × List ℕ) → Option ((Bool × ℕ × ℕ) × List ℕ)
with_minute first rest o =
    o >>= λ read. Some ((nat_eq first 45, (get_or rest 0 0 - 48) * 10 + (get_or rest 1 0 - 48), read.0), read.1)

other_read : (first : ℕ) (rest : List ℕ) → ¬ (first ≡ 90) → ¬ (first ≡ 122) → 2 ≤ length rest → is_signed first rest ≡ true
    → with_minute first rest (part_at 58 (drop 2 rest)) ≡ zone_at (first ∷ rest)
unfolding zone_at two_digits_at digit_at
other_read first (tens ∷ units ∷ rest) y z low e =
    let two = both _ (is_ascii_digit units) e in
    let one = both (nat_eq first 43 || nat_eq first 45) (is_ascii_digit tens) two.0 in rw (not_utc first y z, one.0, one.1, two.1) refl
other_read first [] y z low e = absurd (omega arith)
other_read first (tens ∷ []) y z low e = absurd (omega arith)

-- ---- the same of the text as it is taken apart

pub zone_at-short : (text : List ℕ) → 1 ≤ length text → ¬ (get_or text 0 0 ≡ 90) → ¬ (get_or text 0 0 ≡ 122)
    → length (take (length text - 1) (drop 1 text)) < 2 → None ≡ zone_at text
zone_at-short [] low y z few = absurd (omega arith)
zone_at-short (first ∷ rest) low y z few = other_short first rest y z (rw (take-rest 1 (first ∷ rest)) at few)

pub zone_at-unsigned : (text : List ℕ) → 1 ≤ length text → ¬ (get_or text 0 0 ≡ 90) → ¬ (get_or text 0 0 ≡ 122)
    → 2 ≤ length (take (length text - 1) (drop 1 text)) → is_signed (get_or text 0 0) (take (length text - 1) (drop 1 text)) ≡ false → None ≡ zone_at text
zone_at-unsigned [] low y z more e = absurd (omega arith)
zone_at-unsigned (first ∷ rest) low y z more e =
    let same = take-rest 1 (first ∷ rest) in other_none first rest y z (rw same at more) (rw same at e)

pub zone_at-signed : (text : List ℕ) → 1 ≤ length text → ¬ (get_or text 0 0 ≡ 90) → ¬ (get_or text 0 0 ≡ 122)
    → (rest : List ℕ) → rest ≡ take (length text - 1) (drop 1 text) → 2 ≤ length rest → is_signed (get_or text 0 0) rest ≡ true
    → (minute : Option (ℕ × List ℕ)) → minute ≡ part_at 58 (take (length rest - 2) (drop 2 rest)) → with_minute (get_or text 0 0) rest minute ≡ zone_at text
zone_at-signed [] low y z rest is more e minute m = absurd (omega arith)
zone_at-signed (first ∷ after) low y z rest is more e minute m =
    let same : rest ≡ after = is ∙ take-rest 1 (first ∷ after) in
    ap (with_minute first rest) (m ∙ ap (part_at 58) (take-rest 2 rest))
    ∙ rw same (other_read first after y z (rw same at more) (rw same at e))

pub signed-digits : (first : ℕ) (rest : List ℕ) → is_signed first rest ≡ true → IsInRange 48 57 (get_or rest 0 0) × IsInRange 48 57 (get_or rest 1 0)
signed-digits first rest e =
    let two = both _ (is_ascii_digit (get_or rest 1 0)) e in
    let one = both (nat_eq first 43 || nat_eq first 45) (is_ascii_digit (get_or rest 0 0)) two.0 in
    (digit-range (get_or rest 0 0) one.1, digit-range (get_or rest 1 0) two.1)

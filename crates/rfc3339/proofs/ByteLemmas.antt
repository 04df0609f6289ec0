-- The bytes that a function of `reading` tests together, as the steps read them one by one.
use Rattle.std.proofs.Common.{◌≡◌, ℕ, ◌+◌, ◌-◌, ◌*◌, ◌≤◌, ◌<◌, ◌&&◌, Bool, true, false, List, [], ◌∷◌, length, take, drop, get_or, Some, None, refl, sym, arith}
use Rattle.std.proofs.Common.{length-drop}
use Rattle.std.proofs.lemmas.Bool.Decides.{nat_tests}
use Rattle.std.proofs.lemmas.List.{take_all}
use Rattle.std.specs.Char.{is_ascii_digit}
use Rattle.std.specs.Int.{IsInRange}
use Rattle.rfc3339.specs.Reading.{digit_at, two_digits_at, year_at}

-- what follows the first bytes
pub take-rest : (k : ℕ) (text : List ℕ) → take (length text - k) (drop k text) ≡ drop k text
take-rest k text = take_all (length text - k) (drop k text) (omega (arith, length-drop {A = ℕ}))

pub both : (a b : Bool) → (a && b) ≡ true → (a ≡ true) × (b ≡ true)
both true b e = (refl, e)
both false b e = absurd cc

pub digit-range : (a : ℕ) → is_ascii_digit a ≡ true → IsInRange 48 57 a
digit-range a e = (grind (arith, nat_tests), grind (arith, nat_tests))

-- two digits make a number below 100
two_digits-bound : (a b : ℕ) → is_ascii_digit a ≡ true → is_ascii_digit b ≡ true → (a - 48) * 10 + (b - 48) ≤ 99
two_digits-bound a b p q = grind (arith, nat_tests)

pub four_digits-ranges : (a b c d : ℕ) → (((is_ascii_digit a && is_ascii_digit b) && is_ascii_digit c) && is_ascii_digit d) ≡ true
    → (IsInRange 48 57 a × IsInRange 48 57 b) × (IsInRange 48 57 c × IsInRange 48 57 d)
four_digits-ranges a b c d e =
    let three = both _ (is_ascii_digit d) e in
    let two = both _ (is_ascii_digit c) three.0 in
    let one = both (is_ascii_digit a) (is_ascii_digit b) two.0 in
    ((digit-range a one.0, digit-range b one.1), (digit-range c two.1, digit-range d three.1))

pub four_digits-bound : (a b c d : ℕ) → (((is_ascii_digit a && is_ascii_digit b) && is_ascii_digit c) && is_ascii_digit d) ≡ true
    → ((a - 48) * 10 + (b - 48)) * 100 + ((c - 48) * 10 + (d - 48)) ≤ 9_999
four_digits-bound a b c d e =
    let three = both _ (is_ascii_digit d) e in
    let two = both _ (is_ascii_digit c) three.0 in
    let one = both (is_ascii_digit a) (is_ascii_digit b) two.0 in
    omega (arith, two_digits-bound a b one.0 one.1, two_digits-bound c d two.1 three.1)

year_read : (text : List ℕ) → 4 ≤ length text
    → (((is_ascii_digit (get_or text 0 0) && is_ascii_digit (get_or text 1 0)) && is_ascii_digit (get_or text 2 0)) && is_ascii_digit (get_or text 3 0)) ≡ true
    → year_at text ≡ Some (((get_or text 0 0 - 48) * 10 + (get_or text 1 0 - 48)) * 100 + ((get_or text 2 0 - 48) * 10 + (get_or text 3 0 - 48)), drop 4 text)
unfolding year_at two_digits_at digit_at
year_read (a ∷ b ∷ c ∷ d ∷ rest) low e =
    let three = both _ (is_ascii_digit d) e in
    let two = both _ (is_ascii_digit c) three.0 in
    let one = both (is_ascii_digit a) (is_ascii_digit b) two.0 in
    rw (one.0, one.1, two.1, three.1) refl
year_read [] low e = absurd (omega arith)
year_read (a ∷ []) low e = absurd (omega arith)
year_read (a ∷ b ∷ []) low e = absurd (omega arith)
year_read (a ∷ b ∷ c ∷ []) low e = absurd (omega arith)

-- fewer than four bytes are no year
pub year_at-short : (text : List ℕ) → length text < 4 → None ≡ year_at text
unfolding year_at two_digits_at digit_at
year_at-short [] few = refl
year_at-short (a ∷ []) few = choose (is_ascii_digit a) refl where
  choose : (p : Bool) → is_ascii_digit a ≡ p → None ≡ year_at (a ∷ [])
  choose false w = rw w refl
  choose true w = rw w refl
year_at-short (a ∷ b ∷ []) few = choose (is_ascii_digit a) (is_ascii_digit b) refl refl where
  choose : (p q : Bool) → is_ascii_digit a ≡ p → is_ascii_digit b ≡ q → None ≡ year_at (a ∷ b ∷ [])
  choose false q w x = rw w refl
  choose true false w x = rw (w, x) refl
  choose true true w x = rw (w, x) refl
year_at-short (a ∷ b ∷ c ∷ []) few = choose (is_ascii_digit a) (is_ascii_digit b) (is_ascii_digit c) refl refl refl where
  choose : (p q r : Bool) → is_ascii_digit a ≡ p → is_ascii_digit b ≡ q → is_ascii_digit c ≡ r → None ≡ year_at (a ∷ b ∷ c ∷ [])
  choose false q r w x y = rw w refl
  choose true false r w x y = rw (w, x) refl
  choose true true false w x y = rw (w, x, y) refl
  choose true true true w x y = rw (w, x, y) refl
year_at-short (a ∷ b ∷ c ∷ d ∷ rest) few = absurd (omega arith)

-- four digits are a year
pub year_at-digits : (text : List ℕ) → 4 ≤ length text
    → (((is_ascii_digit (get_or text 0 0) && is_ascii_digit (get_or text 1 0)) && is_ascii_digit (get_or text 2 0)) && is_ascii_digit (get_or text 3 0)) ≡ true
    → Some (
      ((get_or text 0 0 - 48) * 10 + (get_or text 1 0 - 48)) * 100 + ((get_or text 2 0 - 48) * 10 + (get_or text 3 0 - 48)),
      take (length text - 4) (drop 4 text),
    ) ≡ year_at text
year_at-digits text low e = rw (take-rest 4 text) (sym (year_read text low e))

-- and four bytes that are not all digits are none
pub year_at-none : (text : List ℕ) → 4 ≤ length text
    → (((is_ascii_digit (get_or text 0 0) && is_ascii_digit (get_or text 1 0)) && is_ascii_digit (get_or text 2 0)) && is_ascii_digit (get_or text 3 0)) ≡ false
    → None ≡ year_at text
unfolding year_at two_digits_at digit_at
year_at-none (a ∷ b ∷ c ∷ d ∷ rest) low e = choose (is_ascii_digit a) (is_ascii_digit b) (is_ascii_digit c) (is_ascii_digit d) refl refl refl refl e where
  choose : (p q r s : Bool) → is_ascii_digit a ≡ p → is_ascii_digit b ≡ q → is_ascii_digit c ≡ r → is_ascii_digit d ≡ s →
      (((p && q) && r) && s) ≡ false → None ≡ year_at (a ∷ b ∷ c ∷ d ∷ rest)
  choose false q r s w x y z e = rw w refl
  choose true false r s w x y z e = rw (w, x) refl
  choose true true false s w x y z e = rw (w, x, y) refl
  choose true true true false w x y z e = rw (w, x, y, z) refl
  choose true true true true w x y z e = absurd cc
year_at-none [] low e = absurd (omega arith)
year_at-none (a ∷ []) low e = absurd (omega arith)
year_at-none (a ∷ b ∷ []) low e = absurd (omega arith)
year_at-none (a ∷ b ∷ c ∷ []) low e = absurd (omega arith)

-- Digits that are written: each is a digit, and together they have a value as a fraction.
use Rattle.std.proofs.Common.{◌≡◌, ℕ, zero, suc, ◌+◌, ◌-◌, ◌/◌, ◌%◌, ◌<◌, true, List, [], ◌∷◌, ◌++◌, length, refl, ◌∙◌}
use Rattle.std.proofs.Common.{arith}
use Rattle.std.specs.Char.{is_ascii_digit}
use Rattle.std.specs.List.{list_all}
use Rattle.std.proofs.lemmas.Bool.Decides.{nat_tests}
use Rattle.std.proofs.lemmas.List.Folds.{list_all-append}
use Rattle.calendar_values.specs.Digits.{last_digits, fraction_digits}
use Rattle.calendar_values.specs.DigitCountLemmas.{length-last_digits}
use Rattle.rfc3339.specs.Form.{fraction_value}

-- the number has at most this number of digits
abbrev pub HasDigits : ℕ → ℕ → Type 0
HasDigits zero n = n ≡ 0
HasDigits (suc k) n = HasDigits k (n / 10)

pub last_digits-are : (k n : ℕ) → list_all is_ascii_digit (last_digits k n) ≡ true
unfolding last_digits
last_digits-are zero n = refl
last_digits-are (suc k) n =
    grind (arith, nat_tests, list_all-append is_ascii_digit (last_digits k (n / 10)) ((48 + n % 10) ∷ []), last_digits-are k (n / 10))

pub fraction_digits-are : (k n : ℕ) → list_all is_ascii_digit (fraction_digits k n) ≡ true
unfolding fraction_digits
fraction_digits-are zero n = refl
fraction_digits-are (suc zero) n = last_digits-are 1 n
fraction_digits-are (suc (suc k)) n = grind (arith, fraction_digits-are (suc k) (n / 10), last_digits-are (suc (suc k)) n)

pub fraction_digits-some : (k n : ℕ) → 0 < length (fraction_digits (suc k) n)
unfolding fraction_digits
fraction_digits-some zero n = omega (arith, length-last_digits 1 n)
fraction_digits-some (suc k) n = grind (arith, fraction_digits-some k (n / 10), length-last_digits (suc (suc k)) n)

digit_value-written : (d : ℕ) → 48 + d - 48 ≡ d
digit_value-written d = omega arith

-- nine digits have the value of their number
pub fraction_value-nine : (n : ℕ) → n < 1_000_000_000 → fraction_value 100_000_000 (last_digits 9 n) ≡ n
unfolding last_digits fraction_value
fraction_value-nine n low = simp digit_value-written (omega arith)

-- a zero at the end adds nothing
fraction_value-zero : (digits : List ℕ) (unit : ℕ) → fraction_value unit (digits ++ 48 ∷ []) ≡ fraction_value unit digits
unfolding fraction_value
fraction_value-zero [] unit = omega arith
fraction_value-zero (first ∷ digits) unit = omega (arith, fraction_value-zero digits (unit / 10))

fraction_value-digits : (k n unit : ℕ) → fraction_value unit (fraction_digits k n) ≡ fraction_value unit (last_digits k n)
unfolding fraction_digits last_digits
fraction_value-digits zero n unit = refl
fraction_value-digits (suc zero) n unit = refl
fraction_value-digits (suc (suc k)) n unit =
    grind (arith, nat_tests, fraction_value-digits (suc k) (n / 10) unit, fraction_value-zero (last_digits (suc k) (n / 10)) unit)

pub fraction_value-nanosecond : (n : ℕ) → n < 1_000_000_000 → fraction_value 100_000_000 (fraction_digits 9 n) ≡ n
fraction_value-nanosecond n low = fraction_value-digits 9 n 100_000_000 ∙ fraction_value-nine n low

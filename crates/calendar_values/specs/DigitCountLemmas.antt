-- The number of digits of a text.
use Rattle.std.proofs.Common.{◌≡◌, ℕ, zero, suc, ◌/◌, ◌%◌, ◌+◌, ◌≤◌, [], ◌∷◌, length, length-append, refl, arith}
use Rattle.std.proofs.lemmas.Bool.Decides.{nat_tests}
use Rattle.calendar_values.specs.Digits.{last_digits, fraction_digits}

pub length-last_digits : (k n : ℕ) → length (last_digits k n) ≡ k
unfolding last_digits
length-last_digits zero n = refl
length-last_digits (suc k) n =
    omega (arith, length-last_digits k (n / 10), length-append (last_digits k (n / 10)) ((48 + n % 10) ∷ []))

pub length-fraction_digits : (k n : ℕ) → length (fraction_digits k n) ≤ k
unfolding fraction_digits
length-fraction_digits zero n = omega arith
length-fraction_digits (suc zero) n = omega (arith, length-last_digits 1 n)
length-fraction_digits (suc (suc k)) n =
    grind (arith, nat_tests, length-last_digits (suc (suc k)) n, length-fraction_digits (suc k) (n / 10))

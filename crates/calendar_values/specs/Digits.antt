-- Decimal digits, as the bytes of a text.
use Rattle.std.specs.Prelude.{ℕ, zero, suc, ◌+◌, ◌/◌, ◌%◌, ◌==◌, List, [], ◌∷◌, ◌++◌, if◌then◌else◌}

-- the most bytes that a text of the library has
abbrev pub text_capacity : ℕ
text_capacity = 64

-- the last k decimal digits of n, with zeros in front if it has fewer
unfoldable pub last_digits : ℕ → ℕ → List ℕ
last_digits zero n = []
last_digits (suc k) n = last_digits k (n / 10) ++ (48 + n % 10) ∷ []

-- n as a fraction of k digits, without zeros at its end, but with at least one digit
unfoldable pub fraction_digits : ℕ → ℕ → List ℕ
fraction_digits zero n = []
fraction_digits (suc zero) n = last_digits 1 n
fraction_digits (suc (suc k)) n =
    if n % 10 == 0 then fraction_digits (suc k) (n / 10) else last_digits (suc (suc k)) n

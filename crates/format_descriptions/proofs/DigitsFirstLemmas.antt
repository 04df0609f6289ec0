-- Digits at the front of a text are read whatever the padding is, and have no sign before them.
use Rattle.std.proofs.Common.{◌≡◌, ◌∙◌, ap, sym, ℕ, ◌+◌, ◌*◌, ◌==◌, true, false, List, [], ◌∷◌, refl, arith, Some, None, Option, inl, inr}
use Rattle.std.specs.Char.{is_ascii_digit}
use Rattle.std.proofs.lemmas.Bool.{cases_Bool}
use Rattle.std.proofs.lemmas.Bool.Decides.{nat_tests}
use Rattle.rfc3339.specs.Reading.{◌>>=◌, digit_at, two_digits_at, mark_at, year_at}
use Rattle.format_descriptions.specs.Reading.{digit_more, two_at, three_at, four_at, sign_at, signed_year_at}
use Rattle.format_descriptions.specs.declared.modifiers.Padding.{Padding}
use Rattle.format_descriptions.specs.declared.modifiers.Padding.TheVariants.{Zero, Space, Bare}
use Rattle.format_descriptions.specs.declared.modifiers.Sign.TheVariants.{Automatic, Mandatory}
use Rattle.format_descriptions.specs.declared.modifiers.YearRange.{YearRange}

-- a digit is no space and no sign
no_space : (first : ℕ) → is_ascii_digit first ≡ true → (first == 32) ≡ false
no_space first is = grind (arith, nat_tests, is)

no_minus : (first : ℕ) → is_ascii_digit first ≡ true → (first == 45) ≡ false
no_minus first is = grind (arith, nat_tests, is)

no_plus : (first : ℕ) → is_ascii_digit first ≡ true → (first == 43) ≡ false
no_plus first is = grind (arith, nat_tests, is)

-- two digits, from the first of them on
abbrev units_of : ℕ × List ℕ → Option (ℕ × List ℕ) → Option (ℕ × List ℕ)
units_of tens o = o >>= λ units. Some (tens.0 * 10 + units.0, units.1)

abbrev pair_of : Option (ℕ × List ℕ) → Option (ℕ × List ℕ)
pair_of o = o >>= λ tens. units_of tens (digit_at tens.1)

-- four digits, from the first two of them on
abbrev year_of : ℕ × List ℕ → Option (ℕ × List ℕ) → Option (ℕ × List ℕ)
year_of century o = o >>= λ year. Some (century.0 * 100 + year.0, year.1)

abbrev more_of : Option (ℕ × List ℕ) → Option (ℕ × List ℕ)
more_of o = o >>= λ first. digit_more first (digit_at first.1)

-- two digits are one digit and another
units_more : (tens : ℕ × List ℕ) (o : Option (ℕ × List ℕ)) (n : ℕ) (rest : List ℕ) → Some (n, rest) ≡ units_of tens o
    → Some (n, rest) ≡ digit_more tens o
units_more tens None n rest is = absurd cc
units_more tens (Some units) n rest is = is

tens_more : (o : Option (ℕ × List ℕ)) (n : ℕ) (rest : List ℕ) → Some (n, rest) ≡ pair_of o → Some (n, rest) ≡ more_of o
tens_more None n rest is = is
tens_more (Some tens) n rest is = units_more tens (digit_at tens.1) n rest is

-- two digits are read whatever the padding is
pub two_first : (padding : Padding) (text : List ℕ) (n : ℕ) (rest : List ℕ) → Some (n, rest) ≡ two_digits_at text
    → Some (n, rest) ≡ two_at padding text
unfolding two_at two_digits_at digit_at mark_at
two_first Zero text n rest is = is
two_first Space [] n rest is = absurd cc
two_first Space (first ∷ text) n rest is = elim (cases_Bool (is_ascii_digit first)) [
  | inl t ↦ rw (no_space first t) is
  | inr f ↦ let none = rw f at is in absurd cc
]
two_first Bare text n rest is = tens_more (digit_at text) n rest is

-- four digits are two digits, one digit and another
last_more : (century tens : ℕ × List ℕ) (o : Option (ℕ × List ℕ)) (n : ℕ) (rest : List ℕ)
    → Some (n, rest) ≡ year_of century (units_of tens o) → Some (n, rest) ≡ digit_more (century.0 * 10 + tens.0, tens.1) o
last_more century tens None n rest is = absurd cc
last_more century tens (Some units) n rest is =
    let same : century.0 * 100 + (tens.0 * 10 + units.0) ≡ (century.0 * 10 + tens.0) * 10 + units.0 = omega arith in
    is ∙ ap (λ (k : ℕ). Some (k, units.1)) same

third_more : (century : ℕ × List ℕ) (o : Option (ℕ × List ℕ)) (n : ℕ) (rest : List ℕ)
    → Some (n, rest) ≡ year_of century (pair_of o) → Some (n, rest) ≡ more_of (digit_more century o)
third_more century None n rest is = absurd cc
third_more century (Some tens) n rest is = last_more century tens (digit_at tens.1) n rest is

bare_four : (text : List ℕ) (o : Option (ℕ × List ℕ)) (n : ℕ) (rest : List ℕ) → two_digits_at text ≡ o
    → Some (n, rest) ≡ (o >>= λ century. year_of century (two_digits_at century.1)) → Some (n, rest) ≡ four_at Bare text
unfolding four_at three_at two_digits_at
bare_four text None n rest e is = absurd cc
bare_four text (Some century) n rest e is =
    let two : Some (century.0, century.1) ≡ two_at Bare text = two_first Bare text century.0 century.1 (sym e) in
    rw (← two) (third_more century (digit_at century.1) n rest is)

-- four digits are read whatever the padding is
pub four_first : (padding : Padding) (text : List ℕ) (n : ℕ) (rest : List ℕ) → Some (n, rest) ≡ year_at text
    → Some (n, rest) ≡ four_at padding text
unfolding four_at year_at two_digits_at digit_at mark_at
four_first Zero text n rest is = is
four_first Space [] n rest is = absurd cc
four_first Space (first ∷ text) n rest is = elim (cases_Bool (is_ascii_digit first)) [
  | inl t ↦ rw (no_space first t) is
  | inr f ↦ let none = rw f at is in absurd cc
]
four_first Bare text n rest is = bare_four text (two_digits_at text) n rest refl is

-- four digits are a year without a sign
no_sign : (text : List ℕ) (n : ℕ) (rest : List ℕ) → Some (n, rest) ≡ year_at text → sign_at text ≡ None
unfolding sign_at year_at two_digits_at digit_at
no_sign [] n rest is = absurd cc
no_sign (first ∷ text) n rest is = elim (cases_Bool (is_ascii_digit first)) [
  | inl t ↦ rw (no_minus first t, no_plus first t) refl
  | inr f ↦ let none = rw f at is in absurd cc
]

pub year_first : (padding : Padding) (range : YearRange) (text : List ℕ) (n : ℕ) (rest : List ℕ) → Some (n, rest) ≡ year_at text
    → Some ((false, n), rest) ≡ signed_year_at Automatic padding range text
unfolding signed_year_at
year_first padding range text n rest is = rw (no_sign text n rest is, ← four_first padding text n rest is) refl

pub year_stops : (padding : Padding) (range : YearRange) (text : List ℕ) (n : ℕ) (rest : List ℕ) → Some (n, rest) ≡ year_at text
    → None ≡ signed_year_at Mandatory padding range text
unfolding signed_year_at
year_stops padding range text n rest is = rw (no_sign text n rest is) refl

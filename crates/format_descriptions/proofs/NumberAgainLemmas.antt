-- Numbers that are written are read back.
use Rattle.std.proofs.Common.{◌≡◌, ℕ, ◌+◌, ◌/◌, ◌%◌, ◌<◌, ◌≤◌, List, [], ◌∷◌, ◌++◌, length, refl, arith, Some, None, decimal, true}
use Rattle.std.proofs.Common.{inl, inr, nat_lt}
use Rattle.std.specs.Prelude.{IsTrue, not}
use Rattle.std.specs.Char.{is_ascii_digit}
use Rattle.std.specs.List.{list_all}
use Rattle.std.proofs.lemmas.Bool.{and_parts, cases_Bool}
use Rattle.std.proofs.lemmas.Bool.Decides.{nat_tests}
use Rattle.std.proofs.lemmas.Fmt.{decimal_digit, decimal_step}
use Rattle.calendar_values.specs.Digits.{last_digits, fraction_digits}
use Rattle.calendar_values.specs.Texts.{year_digits}
use Rattle.rfc3339.specs.FieldDigitLemmas.{digit_again, digits_at-none}
use Rattle.rfc3339.specs.Form.{fraction_value}
use Rattle.rfc3339.specs.FormLemmas.{two_again, year_again, mark_again}
use Rattle.rfc3339.specs.Reading.{digit_at, two_digits_at, mark_at, digits_at}
use Rattle.rfc3339.specs.WrittenDigitLemmas.{fraction_digits-are, fraction_digits-some, fraction_value-nanosecond}
use Rattle.format_descriptions.specs.Modifiers.{is_padded, is_extended}
use Rattle.format_descriptions.specs.Reading.{two_at, three_at, four_at, more_at, three_digits_at, counted_at, fraction_of, sign_at, weekday_number_at}
use Rattle.format_descriptions.specs.Written.{two_text, three_text, four_text, weekday_number_by}
use Rattle.format_descriptions.specs.declared.modifiers.Padding.{Padding}
use Rattle.format_descriptions.specs.declared.modifiers.Padding.TheVariants.{Zero, Space, Bare}
use Rattle.format_descriptions.specs.declared.modifiers.WeekStart.{WeekStart}
use Rattle.format_descriptions.specs.declared.modifiers.WeekStart.TheVariants.{Sunday, Monday}
use Rattle.format_descriptions.specs.declared.modifiers.WeekdayCount.{WeekdayCount}
use Rattle.format_descriptions.specs.declared.modifiers.WeekdayCount.TheVariants.{FromZero, FromOne}
use Rattle.format_descriptions.specs.declared.modifiers.YearRange.{YearRange}
use Rattle.format_descriptions.specs.declared.modifiers.YearRange.TheVariants.{Standard, Extended}

-- a number of two digits has them as its last two
two_digits : (n : ℕ) → 10 ≤ n → n < 100 → decimal n ≡ last_digits 2 n
unfolding last_digits
two_digits n high low =
    let first : n / 10 % 10 ≡ n / 10 = omega arith in rw (decimal_step n high (omega arith), decimal_digit (n / 10) (omega arith), first) refl

-- a number of three digits has them as its last three
three_digits : (n : ℕ) → 100 ≤ n → n < 1_000 → decimal n ≡ last_digits 3 n
unfolding last_digits
three_digits n high low = rw (decimal_step n (omega arith) (omega arith), two_digits (n / 10) (omega arith) (omega arith)) refl

-- digits do not begin with a space
no_space-two : (n : ℕ) (rest : List ℕ) → 10 ≤ n → n < 100 → mark_at 32 (last_digits 2 n ++ rest) ≡ None
unfolding mark_at last_digits
no_space-two n rest high low = grind (arith, nat_tests)

no_space-three : (n : ℕ) (rest : List ℕ) → mark_at 32 (last_digits 3 n ++ rest) ≡ None
unfolding mark_at last_digits
no_space-three n rest = grind (arith, nat_tests)

-- a number below 100 with no zero in front, if no digit follows
bare_two-again : (n : ℕ) (rest : List ℕ) → n < 100 → digit_at rest ≡ None → two_at Bare (decimal n ++ rest) ≡ Some (n, rest)
unfolding two_at last_digits
bare_two-again n rest low apart = elim (cases_Bool (nat_lt n 10)) [
  | inl t ↦
      let one : n < 10 = grind (arith, nat_tests, t) in
      rw (decimal_digit n one, digit_again n rest (omega (arith, one)), apart) refl
  | inr f ↦
      let two : 10 ≤ n = grind (arith, nat_tests, f) in rw (two_digits n two low) (grind (arith, nat_tests, digit_again))
]

-- a number below 100
pub two-again : (padding : Padding) (n : ℕ) (rest : List ℕ) → n < 100 → (IsTrue (not (is_padded padding)) → digit_at rest ≡ None)
    → two_at padding (two_text padding n ++ rest) ≡ Some (n, rest)
unfolding two_at two_text
two-again Zero n rest low apart = two_again n rest low
two-again Space n rest low apart =
    elim (cases_Bool (nat_lt n 10)) [
      | inl t ↦
          let one : n < 10 = grind (arith, nat_tests, t) in
          rw (t, decimal_digit n one, mark_again 32 ((48 + n) ∷ rest)) (digit_again n rest (omega (arith, one)))
      | inr f ↦
          let two : 10 ≤ n = grind (arith, nat_tests, f) in
          let digits = two_digits n two low in rw (f, digits, no_space-two n rest two low) (two_again n rest low)
    ]
two-again Bare n rest low apart = bare_two-again n rest low (apart refl)

pub three_digits-again : (n : ℕ) (rest : List ℕ) → n < 1_000 → three_digits_at (last_digits 3 n ++ rest) ≡ Some (n, rest)
unfolding three_digits_at two_digits_at last_digits
three_digits-again n rest low = grind (arith, nat_tests, digit_again)

-- a number of three digits, and no other digit behind it
bare_three-again : (n : ℕ) (rest : List ℕ) → n < 1_000 → digit_at rest ≡ None → three_at Bare (last_digits 3 n ++ rest) ≡ Some (n, rest)
unfolding three_at two_at last_digits
bare_three-again n rest low apart = grind (arith, nat_tests, digit_again)

-- a digit, or two, after a space
space_and_digit : (n : ℕ) (rest : List ℕ) → n < 10 → two_at Space (32 ∷ (48 + n) ∷ rest) ≡ Some (n, rest)
unfolding two_at
space_and_digit n rest one = rw (mark_again 32 ((48 + n) ∷ rest)) (digit_again n rest (omega (arith, one)))

space_and_two : (n : ℕ) (rest : List ℕ) → 10 ≤ n → n < 100 → two_at Space (last_digits 2 n ++ rest) ≡ Some (n, rest)
unfolding two_at
space_and_two n rest high low = rw (no_space-two n rest high low) (two_again n rest low)

-- a number below 1,000
pub three-again : (padding : Padding) (n : ℕ) (rest : List ℕ) → n < 1_000 → (IsTrue (not (is_padded padding)) → digit_at rest ≡ None)
    → three_at padding (three_text padding n ++ rest) ≡ Some (n, rest)
unfolding three_at three_text
three-again Zero n rest low apart = three_digits-again n rest low
three-again Space n rest low apart =
    elim (cases_Bool (nat_lt n 10)) [
      | inl t ↦
          let one : n < 10 = grind (arith, nat_tests, t) in
          rw (t, decimal_digit n one, mark_again 32 (32 ∷ (48 + n) ∷ rest)) (space_and_digit n rest one)
      | inr f ↦ elim (cases_Bool (nat_lt n 100)) [
        | inl t ↦
            let high : 10 ≤ n = grind (arith, nat_tests, f) in
            let two : n < 100 = grind (arith, nat_tests, t) in
            rw (f, t, two_digits n high two, mark_again 32 (last_digits 2 n ++ rest)) (space_and_two n rest high two)
        | inr g ↦
            let high : 100 ≤ n = grind (arith, nat_tests, g) in
            rw (f, g, three_digits n high low, no_space-three n rest) (three_digits-again n rest low)
      ]
    ]
three-again Bare n rest low apart = elim (cases_Bool (nat_lt n 100)) [
  | inl t ↦
      let two : n < 100 = grind (arith, nat_tests, t) in rw (bare_two-again n rest two (apart refl), apart refl) refl
  | inr g ↦
      let high : 100 ≤ n = grind (arith, nat_tests, g) in rw (three_digits n high low) (bare_three-again n rest low (apart refl))
]

-- nine digits of a fraction
pub nine-again : (n : ℕ) (rest : List ℕ) → n < 1_000_000_000 → counted_at 9 100_000_000 (last_digits 9 n ++ rest) ≡ Some (n, rest)
unfolding counted_at last_digits
nine-again n rest low = grind (arith, nat_tests, digit_again)

-- six digits
pub six_digits-again : (n : ℕ) (rest : List ℕ) → n < 1_000_000 → counted_at 6 100_000 (last_digits 6 n ++ rest) ≡ Some (n, rest)
unfolding counted_at last_digits
six_digits-again n rest low = grind (arith, nat_tests, digit_again)

-- digits, and no other digit behind them
pub digits_apart : (unit : ℕ) (digits rest : List ℕ) → list_all is_ascii_digit digits ≡ true → digit_at rest ≡ None
    → digits_at unit (digits ++ rest) ≡ (fraction_value unit digits, rest)
unfolding digits_at fraction_value
digits_apart unit [] rest all apart = digits_at-none unit rest apart
digits_apart unit (first ∷ digits) rest all apart =
    let both = and_parts (is_ascii_digit first) (list_all is_ascii_digit digits) all in
    rw (both.0, digits_apart (unit / 10) digits rest both.1 apart) refl

-- a first digit is seen
pub first_seen : (digits rest : List ℕ) → 0 < length digits → list_all is_ascii_digit digits ≡ true
    → fraction_of (digits ++ rest) (digit_at (digits ++ rest)) ≡ Some (digits_at 100_000_000 (digits ++ rest))
unfolding digit_at
first_seen [] rest some all = absurd (omega (arith, some))
first_seen (first ∷ digits) rest some all =
    let both = and_parts (is_ascii_digit first) (list_all is_ascii_digit digits) all in rw both.0 refl

-- as many digits of a fraction as it takes
pub all-again : (n : ℕ) (rest : List ℕ) → n < 1_000_000_000 → digit_at rest ≡ None
    → fraction_of (fraction_digits 9 n ++ rest) (digit_at (fraction_digits 9 n ++ rest)) ≡ Some (n, rest)
all-again n rest low apart =
    let digits = fraction_digits 9 n in
    rw (
      first_seen digits rest (fraction_digits-some 8 n) (fraction_digits-are 9 n),
      digits_apart 100_000_000 digits rest (fraction_digits-are 9 n) apart,
      fraction_value-nanosecond n low,
    ) refl

-- a number below 100 does not begin with a sign
pub no_sign-two : (padding : Padding) (n : ℕ) (rest : List ℕ) → n < 100 → sign_at (two_text padding n ++ rest) ≡ None
unfolding sign_at two_text last_digits
no_sign-two Zero n rest low = grind (arith, nat_tests)
no_sign-two Space n rest low = elim (cases_Bool (nat_lt n 10)) [
  | inl t ↦ rw t refl
  | inr f ↦
      let two : 10 ≤ n = grind (arith, nat_tests, f) in rw (f, two_digits n two low) (grind (arith, nat_tests))
]
no_sign-two Bare n rest low = elim (cases_Bool (nat_lt n 10)) [
  | inl t ↦
      let one : n < 10 = grind (arith, nat_tests, t) in rw (decimal_digit n one) (grind (arith, nat_tests))
  | inr f ↦
      let two : 10 ≤ n = grind (arith, nat_tests, f) in rw (two_digits n two low) (grind (arith, nat_tests))
]

-- four digits do not begin with a sign
pub no_sign-four : (n : ℕ) (rest : List ℕ) → sign_at (last_digits 4 n ++ rest) ≡ None
unfolding sign_at last_digits
no_sign-four n rest = grind (arith, nat_tests)

no_space-four : (n : ℕ) (rest : List ℕ) → mark_at 32 (last_digits 4 n ++ rest) ≡ None
unfolding mark_at last_digits
no_space-four n rest = grind (arith, nat_tests)

-- four digits, whatever follows
bare_four-again : (n : ℕ) (rest : List ℕ) → n < 10_000 → four_at Bare (last_digits 4 n ++ rest) ≡ Some (n, rest)
unfolding four_at three_at two_at last_digits
bare_four-again n rest low = grind (arith, nat_tests, digit_again)

-- a number below 10,000 has no more than four digits
four_digits : (n : ℕ) → n < 10_000 → year_digits n ≡ last_digits 4 n
unfolding year_digits
four_digits n low = let short : nat_lt n 10_000 ≡ true = grind (arith, nat_tests, low) in rw short refl

bare_three : (n : ℕ) (rest : List ℕ) → n < 1_000 → (IsTrue (not (is_padded Bare)) → digit_at rest ≡ None)
    → three_at Bare (decimal n ++ rest) ≡ Some (n, rest)
unfolding three_text
bare_three n rest low apart = three-again Bare n rest low apart

no_sign-space : (rest : List ℕ) → sign_at (32 ∷ rest) ≡ None
unfolding sign_at
no_sign-space rest = refl

no_sign-decimal : (n : ℕ) (rest : List ℕ) → n < 1_000 → sign_at (decimal n ++ rest) ≡ None
unfolding sign_at last_digits
no_sign-decimal n rest low = elim (cases_Bool (nat_lt n 10)) [
  | inl t ↦
      let one : n < 10 = grind (arith, nat_tests, t) in rw (decimal_digit n one) (grind (arith, nat_tests))
  | inr f ↦ elim (cases_Bool (nat_lt n 100)) [
    | inl t ↦
        let two : n < 100 = grind (arith, nat_tests, t) in
        let high : 10 ≤ n = grind (arith, nat_tests, f) in rw (two_digits n high two) (grind (arith, nat_tests))
    | inr g ↦
        let high : 100 ≤ n = grind (arith, nat_tests, g) in rw (three_digits n high low) (grind (arith, nat_tests))
  ]
]

-- a number below 10,000
pub four-again : (padding : Padding) (n : ℕ) (rest : List ℕ) → n < 10_000 → (IsTrue (not (is_padded padding)) → digit_at rest ≡ None)
    → four_at padding (four_text padding n ++ rest) ≡ Some (n, rest)
unfolding four_at four_text
four-again Zero n rest low apart = rw (four_digits n low) (year_again n rest low)
four-again Space n rest low apart = elim (cases_Bool (nat_lt n 1_000)) [
  | inl t ↦
      let three : n < 1_000 = grind (arith, nat_tests, t) in
      rw (t, mark_again 32 (three_text Space n ++ rest)) (three-again Space n rest three apart)
  | inr f ↦ rw (f, four_digits n low, no_space-four n rest) (year_again n rest low)
]
four-again Bare n rest low apart = elim (cases_Bool (nat_lt n 1_000)) [
  | inl t ↦
      let three : n < 1_000 = grind (arith, nat_tests, t) in rw (t, bare_three n rest three apart, apart refl) refl
  | inr f ↦ rw (f, four_digits n low) (bare_four-again n rest low)
]

-- up to two more digits where there are none
pub more-again : (range : YearRange) (n : ℕ) (rest : List ℕ) → (IsTrue (is_extended range) → digit_at rest ≡ None) → more_at range (n, rest) ≡ Some (n, rest)
unfolding more_at
more-again Standard n rest apart = refl
more-again Extended n rest apart = rw (apart refl, apart refl) refl

-- a number below 10,000 does not begin with a sign
pub no_sign-four_text : (padding : Padding) (n : ℕ) (rest : List ℕ) → n < 10_000 → sign_at (four_text padding n ++ rest) ≡ None
unfolding four_text
no_sign-four_text Zero n rest low = rw (four_digits n low) (no_sign-four n rest)
no_sign-four_text Space n rest low = elim (cases_Bool (nat_lt n 1_000)) [
  | inl t ↦ rw t (no_sign-space (three_text Space n ++ rest))
  | inr f ↦ rw (f, four_digits n low) (no_sign-four n rest)
]
no_sign-four_text Bare n rest low = elim (cases_Bool (nat_lt n 1_000)) [
  | inl t ↦
      let three : n < 1_000 = grind (arith, nat_tests, t) in rw t (no_sign-decimal n rest three)
  | inr f ↦ rw (f, four_digits n low) (no_sign-four n rest)
]

-- the digit of a day of the week
weekday-number_again : (start : WeekStart) (count : WeekdayCount) (n w : ℕ) (rest : List ℕ) → n < 7 → w < 10 → w ≡ weekday_number_by start count n
    → weekday_number_at start count (decimal w ++ rest) ≡ Some (n, rest)
unfolding weekday_number_at weekday_number_by
weekday-number_again Sunday FromZero n w rest low one e = rw (decimal_digit w one, digit_again w rest (omega (arith, one))) (grind (arith, nat_tests))
weekday-number_again Sunday FromOne n w rest low one e = rw (decimal_digit w one, digit_again w rest (omega (arith, one))) (grind (arith, nat_tests))
weekday-number_again Monday FromZero n w rest low one e = rw (decimal_digit w one, digit_again w rest (omega (arith, one))) (grind (arith, nat_tests))
weekday-number_again Monday FromOne n w rest low one e = rw (decimal_digit w one, digit_again w rest (omega (arith, one))) (grind (arith, nat_tests))

-- the number of a day of the week
pub weekday_number-again : (start : WeekStart) (count : WeekdayCount) (n : ℕ) (rest : List ℕ) → n < 7
    → weekday_number_at start count (decimal (weekday_number_by start count n) ++ rest) ≡ Some (n, rest)
unfolding weekday_number_at weekday_number_by
weekday_number-again Sunday FromZero n rest low = weekday-number_again Sunday FromZero n _ rest low (omega (arith, low)) refl
weekday_number-again Sunday FromOne n rest low = weekday-number_again Sunday FromOne n _ rest low (omega (arith, low)) refl
weekday_number-again Monday FromZero n rest low = weekday-number_again Monday FromZero n _ rest low (omega (arith, low)) refl
weekday_number-again Monday FromOne n rest low = weekday-number_again Monday FromOne n _ rest low (omega (arith, low)) refl

-- Years: a text that is read is derived, and a text that is derived is read.
use Rattle.std.proofs.Common.{◌≡◌, inl, inr, ℕ, ◌+◌, ◌*◌, ◌/◌, ◌%◌, ◌<◌, Bool, true, false, nat_eq, List, [], ◌∷◌, ◌++◌, append_assoc, Some, refl}
use Rattle.std.proofs.Common.{sym, ap, ◌∙◌, arith}
use Rattle.std.proofs.lemmas.Bool.Decides.{nat_tests}
use Rattle.std.proofs.lemmas.Bool.{cases_Bool}
use Rattle.std.proofs.lemmas.Option.{same_Some}
use Rattle.calendar_values.specs.Digits.{last_digits}
use Rattle.rfc3339.specs.FormLemmas.{bind_some, two_takes, two_again, year_takes, year_again}
use Rattle.rfc3339.specs.Reading.{◌>>=◌, two_digits_at, year_at}
use Rattle.iso_texts.specs.IsoForms.{sign, IsYearText, of_four, of_six}
use Rattle.iso_texts.specs.IsoReading.{is_sign, six_digits_on, four_digits_on, iso_year_at}

-- six digits are two and four
pub last_six : (n : ℕ) → last_digits 6 n ≡ last_digits 2 (n / 10_000) ++ last_digits 4 n
unfolding last_digits
last_six n = simp append_assoc (grind arith)

pub last_four : (front back : ℕ) → back < 10_000 → last_digits 4 (front * 10_000 + back) ≡ last_digits 4 back
unfolding last_digits
last_four front back low = grind arith

-- a sign and two digits, and four more
pub pushed_six : (old first text : List ℕ) (byte n : ℕ) (is_below : Bool) → byte ∷ [] ≡ sign is_below
    → first ≡ old ++ byte ∷ [] ++ last_digits 2 (n / 10_000) → text ≡ first ++ last_digits 4 n → text ≡ old ++ sign is_below ++ last_digits 6 n
pushed_six old first text byte n is_below s e f = rw (f, e, last_six n, ← s) (simp append_assoc refl)

-- a year was taken from the front
pub record TakesYear (bytes text : List ℕ) (is_before : Bool) (year : ℕ) (rest : List ℕ) : Type 0 where
  pub parts : bytes ≡ text ++ rest
  pub is : IsYearText text is_before year

four_takes : (bytes : List ℕ) (is_before : Bool) (year : ℕ) (rest : List ℕ) → four_digits_on bytes ≡ Some ((is_before, year), rest)
    → TakesYear bytes (last_digits 4 year) is_before year rest
four_takes bytes is_before year rest e =
    let a = bind_some (year_at bytes) (λ y. Some ((false, y.0), y.1)) _ e in
    let g = same_Some ((false, a.0.0), a.0.1) ((is_before, year), rest) a.2 in
    let same : (false ≡ is_before) × (a.0.0 ≡ year) × (a.0.1 ≡ rest) = grind (arith, g) in
    let t = year_takes bytes a.0.0 a.0.1 a.1 in
    let low : year < 10_000 = grind (arith, t.fits, same) in
    record { parts = grind (arith, t.parts, same); is = of_four low (sym same.0) refl }

six_takes : (is_before : Bool) (bytes : List ℕ) (is_west : Bool) (year : ℕ) (rest : List ℕ) → six_digits_on is_before bytes ≡ Some ((is_west, year), rest)
    → (is_before ≡ is_west) × (bytes ≡ last_digits 6 year ++ rest) × (year < 1_000_000)
six_takes is_before bytes is_west year rest e =
    let a = bind_some (two_digits_at bytes) (λ f. year_at f.1 >>= λ b. Some ((is_before, f.0 * 10_000 + b.0), b.1)) _ e in
    let b = bind_some (year_at a.0.1) (λ b. Some ((is_before, a.0.0 * 10_000 + b.0), b.1)) _ a.2 in
    let g = same_Some ((is_before, a.0.0 * 10_000 + b.0.0), b.0.1) ((is_west, year), rest) b.2 in
    let same : (is_before ≡ is_west) × (a.0.0 * 10_000 + b.0.0 ≡ year) × (b.0.1 ≡ rest) = grind (arith, g) in
    let t = two_takes bytes a.0.0 a.0.1 a.1 in
    let u = year_takes a.0.1 b.0.0 b.0.1 b.1 in
    let front : year / 10_000 ≡ a.0.0 = omega (arith, same, u.fits) in
    let back : last_digits 4 year ≡ last_digits 4 b.0.0 = ap (last_digits 4) (sym same.1) ∙ last_four a.0.0 b.0.0 u.fits in
    let digits : last_digits 6 year ≡ last_digits 2 a.0.0 ++ last_digits 4 b.0.0 =
    last_six year ∙ ap (λ (n : ℕ). last_digits 2 n ++ last_digits 4 year) front ∙ ap (λ (z : List ℕ). last_digits 2 a.0.0 ++ z) back in
    let whole : bytes ≡ (last_digits 2 a.0.0 ++ last_digits 4 b.0.0) ++ rest =
    t.parts ∙ ap (λ (z : List ℕ). last_digits 2 a.0.0 ++ z) (u.parts ∙ ap (λ (z : List ℕ). last_digits 4 b.0.0 ++ z) same.2)
    ∙ sym (append_assoc (last_digits 2 a.0.0) (last_digits 4 b.0.0) rest) in
    (same.0, whole ∙ ap (λ (z : List ℕ). z ++ rest) (sym digits), omega (arith, same, t.fits, u.fits))

pub sign_is : (first : ℕ) → is_sign first ≡ true → first ∷ [] ≡ sign (nat_eq first 45)
sign_is first t = elim (cases_Bool (nat_eq first 45)) [
  | inl s ↦ rw s (grind (arith, nat_tests))
  | inr s ↦ rw s (grind (arith, nat_tests))
]

pub iso_year_takes : (bytes : List ℕ) (is_before : Bool) (year : ℕ) (rest : List ℕ) → iso_year_at bytes ≡ Some ((is_before, year), rest)
    → (text : List ℕ) × TakesYear bytes text is_before year rest
unfolding iso_year_at
iso_year_takes [] is_before year rest e = absurd cc
iso_year_takes (first ∷ bytes) is_before year rest e =
    elim (cases_Bool (is_sign first)) [
      | inl t ↦
          let six = six_takes (nat_eq first 45) bytes is_before year rest (rw t at e) in (
            first ∷ last_digits 6 year,
            record {
              parts = ap (λ (z : List ℕ). first ∷ z) six.1;
              is = of_six six.2 (ap (λ (z : List ℕ). z ++ last_digits 6 year) (sign_is first t ∙ ap sign six.0));
            },
          )
      | inr t ↦ (last_digits 4 year, four_takes (first ∷ bytes) is_before year rest (rw t at e))
    ]

pub digit_no_sign : (d : ℕ) → is_sign (48 + d) ≡ false
digit_no_sign d = grind (arith, nat_tests)

four_of_digits : (year : ℕ) (rest : List ℕ) → iso_year_at (last_digits 4 year ++ rest) ≡ four_digits_on (last_digits 4 year ++ rest)
unfolding iso_year_at last_digits
four_of_digits year rest = rw (digit_no_sign _) refl

six_of_sign : (is_before : Bool) (bytes : List ℕ) → iso_year_at (sign is_before ++ bytes) ≡ six_digits_on is_before bytes
unfolding iso_year_at
six_of_sign true bytes = refl
six_of_sign false bytes = refl

six_again : (is_before : Bool) (year : ℕ) (rest : List ℕ) → year < 1_000_000
    → six_digits_on is_before (last_digits 6 year ++ rest) ≡ Some ((is_before, year), rest)
six_again is_before year rest low =
    let whole : year / 10_000 * 10_000 + year % 10_000 ≡ year = omega arith in
    let back : last_digits 4 year ≡ last_digits 4 (year % 10_000) =
    sym (ap (last_digits 4) whole) ∙ last_four (year / 10_000) (year % 10_000) (omega arith) in
    rw (last_six year, back, append_assoc (last_digits 2 (year / 10_000)) (last_digits 4 (year % 10_000)) rest)
    (rw (two_again (year / 10_000) (last_digits 4 (year % 10_000) ++ rest) (omega arith), year_again (year % 10_000) rest (omega arith), whole) refl)

pub iso_year_again : (text : List ℕ) (is_before : Bool) (year : ℕ) (rest : List ℕ) → IsYearText text is_before year
    → iso_year_at (text ++ rest) ≡ Some ((is_before, year), rest)
iso_year_again text is_before year rest (of_four low after e) =
    rw (e, after) (four_of_digits year rest ∙ rw (year_again year rest low) refl)
iso_year_again text is_before year rest (of_six low e) =
    rw e (ap iso_year_at (append_assoc (sign is_before) (last_digits 6 year) rest) ∙ six_of_sign is_before (last_digits 6 year ++ rest)
    ∙ six_again is_before year rest low)

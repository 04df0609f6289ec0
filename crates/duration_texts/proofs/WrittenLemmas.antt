-- The texts that are written derive their durations.
use Rattle.std.proofs.Common.{◌≡◌, inl, inr, refl, sym, ap, subst, ◌∙◌, ℕ, zero, suc, ◌+◌, ◌-◌, ◌*◌, ◌/◌, ◌%◌, ◌^◌, ◌≤◌, ◌<◌, ◌==◌, arith}
use Rattle.std.proofs.Common.{true, false, List, [], ◌∷◌, ◌++◌, append-nil, append_assoc, length, length-append}
use Rattle.std.proofs.Common.{ℤ, pos, negsuc, neg_ℤ, unsigned_abs}
use Rattle.std.proofs.lemmas.Int.{ints}
use Rattle.std.specs.Prelude.{IsTrue, decimal, int_lt}
use Rattle.std.specs.Char.{is_ascii_digit}
use Rattle.std.specs.List.{list_all}
use Rattle.std.proofs.Math.Nat.{pow-suc}
use Rattle.std.proofs.lemmas.Bool.{cases_Bool, eqb-true}
use Rattle.std.proofs.lemmas.Bool.Decides.{nat_tests}
use Rattle.std.proofs.lemmas.Fmt.{decimal_by_steps}
use Rattle.std.proofs.lemmas.List.Folds.{list_all-append}
use Rattle.calendar_values.specs.Clock.{nanos_per_second}
use Rattle.calendar_values.specs.DigitCountLemmas.{length-last_digits}
use Rattle.calendar_values.specs.Digits.{last_digits, fraction_digits}
use Rattle.calendar_values.specs.SignedArith.{signed_arith}
use Rattle.duration_texts.specs.Grammar.{Derives, sign_text, is_negative}
use Rattle.duration_texts.specs.Numbers.{IsNumber, HasNanoseconds, number_text, fraction_text, value_from, value_of}
use Rattle.duration_texts.specs.Reading.{with_sign}
use Rattle.duration_texts.specs.Texts.{fraction_of, seconds_of, seconds_text, sign_of}
use Rattle.calendar_values.specs.Durations.{IsDuration, whole_seconds_of, subsec_nanoseconds_of}

abs-neg : (n : ℕ) → unsigned_abs (neg_ℤ (pos n)) ≡ n
abs-neg zero = refl
abs-neg (suc n) = refl

-- the seconds of a duration without its sign, and their rest
pub seconds-magnitude : (d : ℤ) → unsigned_abs (whole_seconds_of d) ≡ unsigned_abs d / nanos_per_second
unfolding whole_seconds_of
seconds-magnitude (pos n) = refl
seconds-magnitude (negsuc n) = abs-neg (suc n / nanos_per_second)

pub nanoseconds-magnitude : (d : ℤ) → unsigned_abs (subsec_nanoseconds_of d) ≡ unsigned_abs d % nanos_per_second
unfolding subsec_nanoseconds_of
nanoseconds-magnitude (pos n) = refl
nanoseconds-magnitude (negsuc n) = abs-neg (suc n % nanos_per_second)

pub ruleset magnitudes = (seconds-magnitude, nanoseconds-magnitude)

-- ---- digits

-- digits that are written: each is a digit, and they have this value
pub record Writes (n : ℕ) (digits : List ℕ) : Type 0 where
  pub some : 0 < length digits
  pub all : IsTrue (list_all is_ascii_digit digits)
  pub value : value_of digits ≡ n

digit : (n : ℕ) → n < 10 → is_ascii_digit (48 + n) ≡ true
digit n low = grind (arith, nat_tests)

one_digit : (n : ℕ) → n < 10 → Writes n ((48 + n) ∷ [])
one_digit n low = record {
  some = omega arith;
  all = rw (digit n low) refl;
  value = omega arith;
}

value_from-append : (value : ℕ) (first second : List ℕ) → value_from value (first ++ second) ≡ value_from (value_from value first) second
value_from-append value [] second = refl
value_from-append value (d ∷ first) second = value_from-append (value * 10 + (d - 48)) first second

more_digits : (n : ℕ) (digits : List ℕ) (d : ℕ) → d < 10 → Writes n digits → Writes (n * 10 + d) (digits ++ (48 + d) ∷ [])
more_digits n digits d low h =
    let size = length-append digits ((48 + d) ∷ []) in
    let last : value_from (value_of digits) ((48 + d) ∷ []) ≡ value_of digits * 10 + d = omega arith in
    record {
      some = omega (arith, size);
      all = list_all-append is_ascii_digit digits ((48 + d) ∷ []) ∙ rw (h.all, digit d low) refl;
      value = value_from-append 0 digits ((48 + d) ∷ []) ∙ last ∙ ap (λ (k : ℕ). k * 10 + d) h.value;
    }

decimal-step : (n : ℕ) (digits : List ℕ) → 10 ≤ n → Writes (n / 10) digits → Writes n (digits ++ (48 + n % 10) ∷ [])
decimal-step n digits low h =
    subst (λ (k : ℕ). Writes k (digits ++ (48 + n % 10) ∷ [])) (omega arith) (more_digits (n / 10) digits (n % 10) (omega arith) h)

pub decimal-writes : (n : ℕ) → n < 2 ^ 64 → Writes n (decimal n)
decimal-writes n low = decimal_by_steps Writes one_digit decimal-step n low

last_digits-writes : (k n : ℕ) → n < 10 ^ suc k → Writes n (last_digits (suc k) n)
unfolding last_digits
last_digits-writes zero n low =
    subst (λ (m : ℕ). Writes m ((48 + n % 10) ∷ [])) (omega (arith, low)) (one_digit (n % 10) (omega arith))
last_digits-writes (suc k) n low =
    let power = pow-suc 10 (suc k) in
    let before = last_digits-writes k (n / 10) (omega (arith, power, low)) in
    subst (λ (m : ℕ). Writes m (last_digits (suc k) (n / 10) ++ (48 + n % 10) ∷ [])) (omega arith) (more_digits (n / 10) _ (n % 10) (omega arith) before)

-- digits after a point: those of a number out of a power of ten
record WritesPart (k n : ℕ) (digits : List ℕ) : Type 0 where
  some : 0 < length digits
  all : IsTrue (list_all is_ascii_digit digits)
  part : n * 10 ^ length digits ≡ value_of digits * 10 ^ k

whole_part : (k n : ℕ) → n < 10 ^ suc k → WritesPart (suc k) n (last_digits (suc k) n)
whole_part k n low =
    let h = last_digits-writes k n low in
    let size = length-last_digits (suc k) n in
    record { some = h.some; all = h.all; part = rw (size, h.value) refl }

tenfold : (n value power size : ℕ) → n / 10 * size ≡ value * power → n % 10 ≡ 0 → n * size ≡ value * (power * 10)
tenfold n value power size e whole =
    let times : n / 10 * 10 ≡ n = omega (arith, whole) in
    let scaled : n / 10 * size * 10 ≡ value * power * 10 = ap (λ (m : ℕ). m * 10) e in
    let spread : n / 10 * 10 * size ≡ value * power * 10 = omega (arith, scaled) in
    let done : n * size ≡ value * power * 10 = ap (λ (m : ℕ). m * size) (sym times) ∙ spread in
    omega (arith, done)

fraction-writes : (k n : ℕ) → n < 10 ^ suc k → WritesPart (suc k) n (fraction_digits (suc k) n)
unfolding fraction_digits
fraction-writes zero n low = whole_part zero n low
fraction-writes (suc k) n low =
    elim (cases_Bool (n % 10 == 0)) [
      | inl t ↦
          let power = pow-suc 10 (suc k) in
          let before = fraction-writes k (n / 10) (omega (arith, power, low)) in
          rw t (record {
            some = before.some;
            all = before.all;
            part = rw power (tenfold n _ (10 ^ suc k) _ before.part (eqb-true (n % 10) 0 t));
          })
      | inr t ↦ rw t (whole_part (suc k) n low)
    ]

-- ---- a decimal of seconds

seconds-part : (n : ℕ) → n < nanos_per_second
    → IsTrue (list_all is_ascii_digit (fraction_of n)) × (n * 10 ^ length (fraction_of n) ≡ value_of (fraction_of n) * nanos_per_second)
seconds-part n low =
    elim (cases_Bool (n == 0)) [
      | inl t ↦ let none = eqb-true n 0 t in rw t (refl, omega (arith, none))
      | inr t ↦ let h = fraction-writes 8 n low in rw t (h.all, h.part)
    ]

pub seconds_of-number : (n : ℕ) → n / nanos_per_second < 2 ^ 64 → IsNumber (seconds_of n) × HasNanoseconds nanos_per_second (seconds_of n) n
seconds_of-number n low =
    let whole = decimal-writes (n / nanos_per_second) low in
    let part = seconds-part (n % nanos_per_second) (omega arith) in
    let value = whole.value in (
      record { some = whole.some; whole = whole.all; fraction = part.0 },
      record { part = n % nanos_per_second; fraction = part.1; whole = omega (arith, value) },
    )

pub signed : (d : ℤ) → d ≡ with_sign (is_negative false (sign_of d)) (unsigned_abs d)
signed (pos n) = let plus : int_lt (pos n) (pos 0) ≡ false = grind (arith, signed_arith) in rw plus refl
signed (negsuc n) = refl

pub least_seconds : (d : ℤ) → IsDuration d → unsigned_abs d / nanos_per_second < 2 ^ 64
least_seconds (pos n) h = let most = h.1 in omega (arith, ints, most)
least_seconds (negsuc n) h = let least = h.0 in omega (arith, ints, least)

pub seconds_text-derives : (d : ℤ) (text : List ℕ) → IsDuration d → text ≡ seconds_text d → Derives text d
unfolding seconds_text
seconds_text-derives d text in_range e =
    let number = seconds_of-number (unsigned_abs d) (least_seconds d in_range) in (
      in_range,
      inr (inl (record {
        before = 0;
        sign = sign_of d;
        number = seconds_of (unsigned_abs d);
        after = 0;
        nanoseconds = unsigned_abs d;
        spelled = e ∙ ap (λ (xs : List ℕ). sign_text (sign_of d) ++ xs) (sym (append-nil (number_text (seconds_of (unsigned_abs d)))));
        digits = number.0;
        value = number.1;
        signed = signed d;
      })),
    )

-- ---- what is put at the end of a text

fraction_text-of : (n : ℕ) → 0 < n → n < nanos_per_second → fraction_text (fraction_of n) ≡ 46 ∷ fraction_digits 9 n
fraction_text-of n some low =
    elim (cases_Bool (n == 0)) [
      | inl t ↦ let none = eqb-true n 0 t in absurd (omega (arith, some, none))
      | inr t ↦ rw t (begins (fraction_digits 9 n) (fraction-writes 8 n low).some)
    ] where
      begins : (digits : List ℕ) → 0 < length digits → fraction_text digits ≡ 46 ∷ digits
      begins [] some = absurd (omega (arith, some))
      begins (d ∷ digits) some = refl

pub pushed-seconds : (old digits before point new : List ℕ) (n : ℕ) → 0 < n → n < nanos_per_second → before ≡ old ++ digits → point ≡ before ++ (46 ∷ [])
    → new ≡ point ++ fraction_digits 9 n → new ≡ old ++ (digits ++ fraction_text (fraction_of n))
pushed-seconds old digits before point new n some low e f g =
    g
    ∙ ap (λ (xs : List ℕ). xs ++ fraction_digits 9 n) (f ∙ ap (λ (xs : List ℕ). xs ++ (46 ∷ [])) e)
    ∙ append_assoc (old ++ digits) (46 ∷ []) (fraction_digits 9 n)
    ∙ append_assoc old digits (46 ∷ fraction_digits 9 n)
    ∙ ap (λ (xs : List ℕ). old ++ (digits ++ xs)) (sym (fraction_text-of n some low))

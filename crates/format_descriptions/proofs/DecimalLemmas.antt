-- Decimals that are written are read back.
use Rattle.std.proofs.Common.{◌≡◌, ℕ, zero, suc, ◌+◌, ◌-◌, ◌*◌, ◌/◌, ◌%◌, ◌<◌, ◌≤◌, ◌^◌, List, [], ◌∷◌, ◌++◌, decimal, refl, arith, append_assoc}
use Rattle.std.proofs.Common.{Some, None, inl, inr, pow-suc}
use Rattle.std.proofs.Common.{ℤ, pos, ◌≤ℤ◌, unsigned_abs, nat_lt}
use Rattle.std.specs.Prelude.{int_lt}
use Rattle.std.proofs.lemmas.Bool.{cases_Bool}
use Rattle.std.proofs.lemmas.Bool.Decides.{nat_tests}
use Rattle.std.proofs.lemmas.Fmt.{decimal_digit, decimal_step_wide}
use Rattle.calendar_values.specs.Calendar.{year_of, ordinal_of}
use Rattle.calendar_values.specs.Clock.{IsClock}
use Rattle.calendar_values.specs.DayLemmas.{IsDay-ordinal_date, IsOrdinalDate-of, day_of_ordinal_date-of}
use Rattle.calendar_values.specs.Offsets.{IsOffset}
use Rattle.calendar_values.specs.Range.{IsDay, IsYear}
use Rattle.calendar_values.specs.SignedArith.{signed_arith, one_part}
use Rattle.offset_times.specs.Local.{instant_of}
use Rattle.rfc3339.specs.FieldDigitLemmas.{digit_again}
use Rattle.rfc3339.specs.Reading.{digit_at}
use Rattle.format_descriptions.specs.Modifiers.{unix_digits}
use Rattle.format_descriptions.specs.Reading.{digits_on, decimal_at, sign_at, unix_at}
use Rattle.format_descriptions.specs.Written.{unix_count, unix_text}
use Rattle.format_descriptions.specs.declared.modifiers.Sign.{Sign}
use Rattle.format_descriptions.specs.declared.modifiers.Sign.TheVariants.{Automatic, Mandatory}
use Rattle.format_descriptions.specs.declared.modifiers.UnixPrecision.{UnixPrecision}
use Rattle.format_descriptions.specs.declared.modifiers.UnixPrecision.TheVariants.{Seconds, Milliseconds, Microseconds, Nanoseconds}
use Rattle.format_descriptions.proofs.DigitLemmas.{no_more_digits}

-- a digit that is there is read
digits_on-digit : (count n d : ℕ) (rest : List ℕ) → 0 < count → d ≤ 9
    → digits_on count (n, (48 + d) ∷ rest) ≡ digits_on (count - 1) (n * 10 + d, rest)
unfolding digits_on
digits_on-digit zero n d rest some low = absurd (omega (arith, some))
digits_on-digit (suc count) n d rest some low =
    let same : suc count - 1 ≡ count = omega arith in rw (same, digit_again d rest low) refl

-- a number is read to its last digit, and there is room for as many digits as it has fewer
record Reads (most k n : ℕ) (rest : List ℕ) : Type 0 where
  pub left : ℕ
  pub room : most ≤ left + suc k
  pub read : decimal_at most (decimal n ++ rest) ≡ Some (digits_on left (n, rest))

one-read : (most k n : ℕ) (rest : List ℕ) → n < 10 → Reads most k n rest
unfolding decimal_at
one-read most k n rest low = record {
  left = most - 1;
  room = omega arith;
  read = rw (decimal_digit n low, digit_again n rest (omega (arith, low))) refl;
}

more-read : (most k n : ℕ) (rest : List ℕ) → 10 ≤ n → n < 10 ^ 64 → suc (suc k) ≤ most → Reads most k (n / 10) ((48 + n % 10) ∷ rest)
    → Reads most (suc k) n rest
more-read most k n rest high fits enough earlier =
    let some : 0 < earlier.left = omega (arith, enough, earlier.room) in
    let whole : n / 10 * 10 + n % 10 ≡ n = omega arith in
    record {
      left = earlier.left - 1;
      room = omega (arith, earlier.room, some);
      read =
          rw (
            decimal_step_wide n high fits,
            append_assoc (decimal (n / 10)) ((48 + n % 10) ∷ []) rest,
            earlier.read,
            digits_on-digit earlier.left (n / 10) (n % 10) rest some (omega arith),
            whole,
          ) refl;
    }

read-of : (k most n : ℕ) (rest : List ℕ) → n < 10 ^ suc k → suc k ≤ most → n < 10 ^ 64 → Reads most k n rest
read-of zero most n rest low enough fits = one-read most 0 n rest (omega (arith, low))
read-of (suc k) most n rest low enough fits = elim (cases_Bool (nat_lt n 10)) [
  | inl t ↦ one-read most (suc k) n rest (grind (arith, nat_tests, t))
  | inr f ↦
      let high : 10 ≤ n = grind (arith, nat_tests, f) in
      let power : 10 ^ suc (suc k) ≡ 10 ^ suc k * 10 = pow-suc 10 (suc k) in
      let less : n / 10 < 10 ^ suc k = omega (arith, power, low) in
      more-read most k n rest high fits enough (read-of k most (n / 10) ((48 + n % 10) ∷ rest) less (omega (arith, enough)) (omega (arith, fits)))
]

-- a number of at most so many digits, and no other digit behind it
pub decimal-again : (k n : ℕ) (rest : List ℕ) → n < 10 ^ suc k → n < 10 ^ 64 → digit_at rest ≡ None → decimal_at (suc k) (decimal n ++ rest) ≡ Some (n, rest)
decimal-again k n rest low fits apart =
    let got = read-of k (suc k) n rest low (omega arith) fits in rw (got.read, no_more_digits got.left n rest apart) refl

-- a decimal begins with a digit, and with no sign
no_sign-digit : (d : ℕ) (rest : List ℕ) → d ≤ 9 → sign_at ((48 + d) ∷ rest) ≡ None
unfolding sign_at
no_sign-digit d rest low = grind (arith, nat_tests)

no_sign-decimal : (k n : ℕ) (rest : List ℕ) → n < 10 ^ suc k → n < 10 ^ 64 → sign_at (decimal n ++ rest) ≡ None
no_sign-decimal zero n rest low fits = rw (decimal_digit n (omega (arith, low))) (no_sign-digit n rest (omega (arith, low)))
no_sign-decimal (suc k) n rest low fits = elim (cases_Bool (nat_lt n 10)) [
  | inl t ↦
      let one : n < 10 = grind (arith, nat_tests, t) in rw (decimal_digit n one) (no_sign-digit n rest (omega (arith, one)))
  | inr f ↦
      let high : 10 ≤ n = grind (arith, nat_tests, f) in
      let power : 10 ^ suc (suc k) ≡ 10 ^ suc k * 10 = pow-suc 10 (suc k) in
      let less : n / 10 < 10 ^ suc k = omega (arith, power, low) in
      rw (decimal_step_wide n high fits, append_assoc (decimal (n / 10)) ((48 + n % 10) ∷ []) rest)
      (no_sign-decimal k (n / 10) ((48 + n % 10) ∷ rest) less (omega (arith, fits)))
]

-- a day of a year of the range is one of the range
day_in_range : (day : ℤ) → pos 0 ≤ℤ year_of day → year_of day ≤ℤ pos 9_999 → IsDay day
day_in_range day low high =
    let year : IsYear (year_of day) = (omega (arith, signed_arith, low), omega (arith, signed_arith, high)) in
    let given = IsDay-ordinal_date (year_of day) (ordinal_of day) year (IsOrdinalDate-of day) in
    rw (day_of_ordinal_date-of day) at given

-- a count has no more digits than are read
count-below : (precision : UnixPrecision) (day : ℤ) (clock : ℕ) (o : ℤ) → IsDay day → IsClock clock → IsOffset o
    → unsigned_abs (unix_count precision day clock o) < 10 ^ unix_digits precision
unfolding unix_count instant_of
count-below Seconds day clock o in_range is_clock is_offset =
    omega (
      arith,
      signed_arith,
      one_part day,
      one_part o,
      one_part (unix_count Seconds day clock o),
      in_range.0,
      in_range.1,
      is_clock,
      is_offset.0,
      is_offset.1,
    )
count-below Milliseconds day clock o in_range is_clock is_offset =
    omega (
      arith,
      signed_arith,
      one_part day,
      one_part o,
      one_part (unix_count Milliseconds day clock o),
      in_range.0,
      in_range.1,
      is_clock,
      is_offset.0,
      is_offset.1,
    )
count-below Microseconds day clock o in_range is_clock is_offset =
    omega (
      arith,
      signed_arith,
      one_part day,
      one_part o,
      one_part (unix_count Microseconds day clock o),
      in_range.0,
      in_range.1,
      is_clock,
      is_offset.0,
      is_offset.1,
    )
count-below Nanoseconds day clock o in_range is_clock is_offset =
    omega (
      arith,
      signed_arith,
      one_part day,
      one_part o,
      one_part (unix_count Nanoseconds day clock o),
      in_range.0,
      in_range.1,
      is_clock,
      is_offset.0,
      is_offset.1,
    )

unix_text-again : (sign : Sign) (k : ℕ) (n : ℤ) (rest : List ℕ) → unsigned_abs n < 10 ^ suc k → unsigned_abs n < 10 ^ 64 → digit_at rest ≡ None
    → unix_at sign (suc k) (unix_text sign n ++ rest) ≡ Some ((int_lt n (pos 0), unsigned_abs n), rest)
unfolding unix_at unix_text sign_at
unix_text-again Automatic k n rest low fits apart = elim (cases_Bool (int_lt n (pos 0))) [
  | inl t ↦ rw (t, decimal-again k (unsigned_abs n) rest low fits apart) refl
  | inr f ↦ rw (f, no_sign-decimal k (unsigned_abs n) rest low fits, decimal-again k (unsigned_abs n) rest low fits apart) refl
]
unix_text-again Mandatory k n rest low fits apart = elim (cases_Bool (int_lt n (pos 0))) [
  | inl t ↦ rw (t, decimal-again k (unsigned_abs n) rest low fits apart) refl
  | inr f ↦ rw (f, decimal-again k (unsigned_abs n) rest low fits apart) refl
]

-- a timestamp of a year of four digits, and no digit behind it
pub unix-again : (precision : UnixPrecision) (sign : Sign) (day : ℤ) (clock : ℕ) (o : ℤ) (rest : List ℕ) → pos 0 ≤ℤ year_of day → year_of day ≤ℤ pos 9_999
    → IsClock clock → IsOffset o → digit_at rest ≡ None
    → unix_at sign (unix_digits precision) (unix_text sign (unix_count precision day clock o) ++ rest)
    ≡ Some ((int_lt (unix_count precision day clock o) (pos 0), unsigned_abs (unix_count precision day clock o)), rest)
unix-again Seconds sign day clock o rest low high is_clock is_offset apart =
    let below = count-below Seconds day clock o (day_in_range day low high) is_clock is_offset in
    unix_text-again sign 13 (unix_count Seconds day clock o) rest below (omega (arith, below)) apart
unix-again Milliseconds sign day clock o rest low high is_clock is_offset apart =
    let below = count-below Milliseconds day clock o (day_in_range day low high) is_clock is_offset in
    unix_text-again sign 16 (unix_count Milliseconds day clock o) rest below (omega (arith, below)) apart
unix-again Microseconds sign day clock o rest low high is_clock is_offset apart =
    let below = count-below Microseconds day clock o (day_in_range day low high) is_clock is_offset in
    unix_text-again sign 19 (unix_count Microseconds day clock o) rest below (omega (arith, below)) apart
unix-again Nanoseconds sign day clock o rest low high is_clock is_offset apart =
    let below = count-below Nanoseconds day clock o (day_in_range day low high) is_clock is_offset in
    unix_text-again sign 22 (unix_count Nanoseconds day clock o) rest below (omega (arith, below)) apart

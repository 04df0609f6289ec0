-- The digits of a fraction without the zeros at its end.
use Rattle.std.proofs.Common.{◌≡◌, ℕ, zero, suc, ◌+◌, ◌/◌, ◌%◌, ◌≤◌, false, true, nat_eq, List, [], ◌∷◌, ◌++◌, take, refl, sym, ap, ◌∙◌, arith}
use Rattle.std.specs.Prelude.{codes}
use Rattle.std.proofs.lemmas.Bool.Decides.{nat_tests}
use Rattle.std.proofs.lemmas.List.{take_at, take_all, take-take}
use Rattle.calendar_values.specs.Digits.{last_digits, fraction_digits}
use Rattle.calendar_values.specs.DigitCountLemmas.{length-last_digits}
use Rattle.stamp_times.specs.Texts.{fraction_text}

-- so many digits of a nanosecond are left, and zeros behind them
pub record AreLeft (nanosecond rest count : ℕ) : Type 0 where
  pub digits : fraction_digits count rest ≡ fraction_digits 9 nanosecond
  pub front : last_digits count rest ≡ take count (last_digits 9 nanosecond)

pub all_left : (n : ℕ) → AreLeft n n 9
all_left n = record { digits = refl; front = sym (take_all 9 (last_digits 9 n) (omega (arith, length-last_digits 9 n))) }

none : (n : ℕ) → n ≡ 0 → nat_eq n 0 ≡ true
none n h = grind (arith, nat_tests)

some : (n : ℕ) → ¬ (n ≡ 0) → nat_eq n 0 ≡ false
some n h = grind (arith, nat_tests)

-- a zero at the end goes
pub one_less : (n r c k : ℕ) → c ≡ suc k → 1 ≤ k → r % 10 ≡ 0 → AreLeft n r c → AreLeft n (r / 10) k
unfolding fraction_digits last_digits
one_less n r c zero s low e h = absurd (omega arith)
one_less n r c (suc j) s low e h =
    let left = rw s at h in
    record {
      digits = rw (none (r % 10) e) at left.digits;
      front =
          sym (take_at (last_digits (suc j) (r / 10)) ((48 + r % 10) ∷ []) (suc j) (length-last_digits (suc j) (r / 10)))
          ∙ ap (take (suc j)) left.front ∙ take-take (suc j) (suc (suc j)) (last_digits 9 n) (omega arith);
    }

-- a digit that is not 0 ends them, and so does the first
pub last_left : (n r c : ℕ) → 2 ≤ c → ¬ (r % 10 ≡ 0) → AreLeft n r c → take c (last_digits 9 n) ≡ fraction_digits 9 n
unfolding fraction_digits
last_left n r zero low e h = absurd (omega arith)
last_left n r (suc zero) low e h = absurd (omega arith)
last_left n r (suc (suc k)) low e h = sym h.front ∙ (rw (some (r % 10) e) at h.digits)

pub first_left : (n r c : ℕ) → c ≡ 1 → AreLeft n r c → take c (last_digits 9 n) ≡ fraction_digits 9 n
unfolding fraction_digits
first_left n r c e h =
    let left = rw e at h in
    let one : last_digits 1 r ≡ fraction_digits 1 r = refl in
    rw e (sym left.front ∙ one ∙ left.digits)

pub fraction_text-some : (n : ℕ) → 1 ≤ n → fraction_text n ≡ codes "." ++ fraction_digits 9 n
unfolding fraction_text
fraction_text-some n low = rw (some n (λ (e : n ≡ 0). absurd (omega (arith, e, low)))) refl

-- the point and the digits that are left
pub text_left : (digits : List ℕ) (n c : ℕ) → digits ≡ codes "." ++ last_digits 9 n → take c (last_digits 9 n) ≡ fraction_digits 9 n → 1 ≤ n
    → take (1 + c) digits ≡ fraction_text n
text_left digits n c e f low =
    let next : 1 + c ≡ suc c = omega arith in
    rw (next, e, fraction_text-some n low) (ap (λ (z : List ℕ). 46 ∷ z) f)

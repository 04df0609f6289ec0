-- Fractions of nine, six and three digits whose last is not 0, and digits in pairs.
use Rattle.std.proofs.Common.{◌≡◌, ℕ, ◌/◌, ◌%◌, true, false, nat_eq, ◌++◌, refl, arith}
use Rattle.std.proofs.lemmas.Bool.Decides.{nat_tests}
use Rattle.std.specs.Prelude.{codes}
use Rattle.calendar_values.specs.Digits.{last_digits, fraction_digits}
use Rattle.stamp_times.specs.Texts.{fraction_text}

some : (n : ℕ) → ¬ (n ≡ 0) → nat_eq n 0 ≡ false
some n h = grind (arith, nat_tests)

none : (n : ℕ) → n ≡ 0 → nat_eq n 0 ≡ true
none n h = grind (arith, nat_tests)

pub fraction_text-nine : (n : ℕ) → ¬ (n % 10 ≡ 0) → fraction_text n ≡ codes "." ++ last_digits 9 n
unfolding fraction_text fraction_digits
fraction_text-nine n h =
    let not_0 : ¬ (n ≡ 0) = λ (e : n ≡ 0). h (rw e refl) in
    rw (some n not_0, some (n % 10) h) refl

pub fraction_text-six : (n : ℕ) → n % 1_000 ≡ 0 → ¬ (n / 1_000 % 10 ≡ 0) → fraction_text n ≡ codes "." ++ last_digits 6 (n / 1_000)
unfolding fraction_text fraction_digits
fraction_text-six n e h =
    let not_0 : ¬ (n ≡ 0) = λ (e : n ≡ 0). h (rw e refl) in
    let one : n % 10 ≡ 0 = omega arith in
    let two : n / 10 % 10 ≡ 0 = omega arith in
    let three : n / 10 / 10 % 10 ≡ 0 = omega arith in
    let left : n / 10 / 10 / 10 ≡ n / 1_000 = omega arith in
    rw (some n not_0, none (n % 10) one, none (n / 10 % 10) two, none (n / 10 / 10 % 10) three)
    (rw left (rw (some (n / 1_000 % 10) h) refl))

pub fraction_text-three : (n : ℕ) → n % 1_000_000 ≡ 0 → ¬ (n / 1_000_000 % 10 ≡ 0) → fraction_text n ≡ codes "." ++ last_digits 3 (n / 1_000_000)
unfolding fraction_text fraction_digits
fraction_text-three n e h =
    let not_0 : ¬ (n ≡ 0) = λ (e : n ≡ 0). h (rw e refl) in
    let thousands : n % 1_000 ≡ 0 = omega arith in
    let one : n % 10 ≡ 0 = omega arith in
    let two : n / 10 % 10 ≡ 0 = omega arith in
    let three : n / 10 / 10 % 10 ≡ 0 = omega arith in
    let half : n / 10 / 10 / 10 ≡ n / 1_000 = omega arith in
    let four : n / 1_000 % 10 ≡ 0 = omega arith in
    let five : n / 1_000 / 10 % 10 ≡ 0 = omega arith in
    let six : n / 1_000 / 10 / 10 % 10 ≡ 0 = omega arith in
    let left : n / 1_000 / 10 / 10 / 10 ≡ n / 1_000_000 = omega arith in
    rw (some n not_0, none (n % 10) one, none (n / 10 % 10) two, none (n / 10 / 10 % 10) three)
    (rw half (rw (none (n / 1_000 % 10) four, none (n / 1_000 / 10 % 10) five, none (n / 1_000 / 10 / 10 % 10) six)
    (rw left (rw (some (n / 1_000_000 % 10) h) refl))))

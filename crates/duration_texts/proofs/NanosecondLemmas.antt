-- The nanoseconds that are read of a number are those that it has.
use Rattle.std.proofs.Common.{◌≡◌, inl, inr, refl, sym, ap, ◌∙◌, ℕ, suc, ◌+◌, ◌-◌, ◌*◌, ◌/◌, ◌%◌, ◌^◌, ◌≤◌, ◌<◌, arith}
use Rattle.std.proofs.Common.{nat_lt, List, [], ◌∷◌, length, Option, Some, None, Ok}
use Rattle.std.specs.Option.{option_and_then}
use Rattle.std.specs.Prelude.{nat_eq}
use Rattle.std.proofs.Math.Nat.{pow-suc, one-le-pow, le_of_mul-le-mul_right}
use Rattle.std.proofs.lemmas.Bool.{cases_Bool, eqb-true}
use Rattle.std.proofs.lemmas.Bool.Decides.{nat_tests}
use Rattle.duration_texts.specs.Numbers.{Number, HasNanoseconds, value_from, value_of, part_of, tenth, most_nanoseconds}
use Rattle.duration_texts.specs.Reading.{nanoseconds_of, with_part, in_range}

more_digits : (value d power next total there : ℕ) → next ≡ power * 10 → total ≡ (value * 10 + d) * power + there
    → total ≡ value * next + (d * power + there)
more_digits value d power next total there p e = rw p (omega (arith, e))

-- the value of digits after a number
pub value_from-split : (value : ℕ) (digits : List ℕ) → value_from value digits ≡ value * 10 ^ length digits + value_of digits
value_from-split value [] = omega arith
value_from-split value (digit ∷ digits) =
    let d = digit - 48 in
    let none : 0 * 10 + d ≡ d = omega arith in
    let there : value_from (0 * 10 + d) digits ≡ d * 10 ^ length digits + value_of digits =
    ap (λ (n : ℕ). value_from n digits) none ∙ value_from-split d digits in
    more_digits value d (10 ^ length digits) (10 ^ suc (length digits)) _ (value_of digits) (pow-suc 10 (length digits))
    (value_from-split (value * 10 + d) digits)
    ∙ ap (λ (n : ℕ). value * 10 ^ suc (length digits) + n) (sym there)

tenth-ok : (n m : ℕ) → tenth n ≡ Some m → n ≡ m * 10
tenth-ok n m e =
    elim (cases_Bool (nat_eq (n % 10) 0)) [
      | inl t ↦
          let is = rw t at e in
          let same : n / 10 ≡ m = cc in
          let whole : n % 10 ≡ 0 = eqb-true (n % 10) 0 t in
          omega (arith, same, whole)
      | inr t ↦ let bad = rw t at e in absurd cc
    ]

tenth-of : (m : ℕ) → tenth (m * 10) ≡ Some m
tenth-of m =
    let whole : m * 10 % 10 ≡ 0 = omega arith in
    let same : m * 10 / 10 ≡ m = omega arith in
    rw whole (ap Some same)

-- the part that is read, times the power of ten
first_part : (d unit part rest power next value : ℕ) → next ≡ power * 10 → d * unit + rest ≡ part * 10 → rest * power ≡ value * unit
    → part * next ≡ (d * power + value) * unit
first_part d unit part rest power next value p e is =
    let times : (d * unit + rest) * power ≡ part * 10 * power = ap (λ (n : ℕ). n * power) e in
    rw p (omega (arith, times, is))

value_of-first : (digit : ℕ) (digits : List ℕ) → value_of (digit ∷ digits) ≡ (digit - 48) * 10 ^ length digits + value_of digits
value_of-first digit digits =
    let none : 0 * 10 + (digit - 48) ≡ digit - 48 = omega arith in
    ap (λ (n : ℕ). value_from n digits) none ∙ value_from-split (digit - 48) digits

and_then-some : {A B : Type 0} (f : A → Option B) (o : Option A) (y : B) → option_and_then f o ≡ Some y → (x : A) × (o ≡ Some x) × (f x ≡ Some y)
and_then-some f (Some x) y e = (x, refl, e)
and_then-some f None y e = absurd cc

pub part_of-is : (unit part : ℕ) (digits : List ℕ) → part_of unit digits ≡ Some part → part * 10 ^ length digits ≡ value_of digits * unit
part_of-is unit part [] e =
    let none : 0 ≡ part = cc in
    omega (arith, none)
part_of-is unit part (digit ∷ digits) e =
    let parts = and_then-some (λ (n : ℕ). tenth ((digit - 48) * unit + n)) (part_of unit digits) part e in
    let before = part_of-is unit parts.0 digits parts.1 in
    rw (value_of-first digit digits) (first_part (digit - 48) unit part parts.0 (10 ^ length digits) (10 ^ suc (length digits)) (value_of digits)
    (pow-suc 10 (length digits)) (tenth-ok _ part parts.2) before)

-- and the only one: what is left of a whole part is a whole part
rest_is : (rest d unit part power value : ℕ) → d * unit + rest ≡ part * 10 → part * 10 * power ≡ d * unit * power + value * unit → rest * power ≡ value * unit
rest_is rest d unit part power value e is =
    let times : (d * unit + rest) * power ≡ part * 10 * power = ap (λ (n : ℕ). n * power) e in
    omega (arith, times, is)

rest_part : (d unit part power next value : ℕ) → 0 < power → next ≡ power * 10 → part * next ≡ (d * power + value) * unit
    → (rest : ℕ) × (rest * power ≡ value * unit) × (d * unit + rest ≡ part * 10)
rest_part d unit part power next value some p e =
    let times : part * (power * 10) ≡ (d * power + value) * unit = rw p at e in
    let spread : part * 10 * power ≡ d * unit * power + value * unit = omega (arith, times) in
    let less : d * unit * power ≤ part * 10 * power = omega (arith, spread) in
    let low : d * unit ≤ part * 10 = le_of_mul-le-mul_right less some in
    let whole : d * unit + (part * 10 - d * unit) ≡ part * 10 = omega (arith, low) in
    (part * 10 - d * unit, rest_is (part * 10 - d * unit) d unit part power value whole spread, whole)

pub part_of-again : (unit part : ℕ) (digits : List ℕ) → part * 10 ^ length digits ≡ value_of digits * unit → part_of unit digits ≡ Some part
part_of-again unit part [] e =
    let none : 0 ≡ part = omega (arith, e) in
    ap Some none
part_of-again unit part (digit ∷ digits) e =
    let all : part * 10 ^ suc (length digits) ≡ ((digit - 48) * 10 ^ length digits + value_of digits) * unit = rw (sym (value_of-first digit digits)) e in
    let rest = rest_part (digit - 48) unit part (10 ^ length digits) (10 ^ suc (length digits)) (value_of digits) (one-le-pow (length digits) 10 (omega arith))
    (pow-suc 10 (length digits)) all in
    rw (part_of-again unit rest.0 digits rest.1) (ap tenth rest.2 ∙ tenth-of part)

-- what is read of a number
in_range-ok : (sum n : ℕ) → in_range sum ≡ Ok n → sum ≡ n
in_range-ok sum n e =
    elim (cases_Bool (nat_lt most_nanoseconds sum)) [
      | inl t ↦ let bad = rw t at e in absurd cc
      | inr t ↦ let same = rw t at e in cc
    ]

with_part-ok : (unit n : ℕ) (number : Number) (o : Option ℕ) → part_of unit number.fraction ≡ o → with_part (value_of number.whole * unit) o ≡ Ok n
    → HasNanoseconds unit number n
with_part-ok unit n number None e is = absurd cc
with_part-ok unit n number (Some part) e is = record {
  part = part;
  fraction = part_of-is unit part number.fraction e;
  whole = sym (in_range-ok (value_of number.whole * unit + part) n is);
}

pub nanoseconds_of-ok : (unit n : ℕ) (number : Number) → nanoseconds_of unit number ≡ Ok n → HasNanoseconds unit number n
nanoseconds_of-ok unit n number e = with_part-ok unit n number (part_of unit number.fraction) refl e

in_range-again : (n : ℕ) → n ≤ most_nanoseconds → in_range n ≡ Ok n
in_range-again n low =
    elim (cases_Bool (nat_lt most_nanoseconds n)) [
      | inl t ↦ absurd (grind (arith, nat_tests))
      | inr t ↦ rw t refl
    ]

pub nanoseconds_of-again : (unit n : ℕ) (number : Number) → HasNanoseconds unit number n → n ≤ most_nanoseconds → nanoseconds_of unit number ≡ Ok n
nanoseconds_of-again unit n number h low =
    rw (part_of-again unit h.part number.fraction h.fraction) (rw (sym h.whole) (in_range-again n low))

-- The values of digits, and the nanoseconds of those after the point.
use Rattle.std.proofs.Common.{◌≡◌, ℕ, zero, suc, ◌+◌, ◌-◌, ◌*◌, ◌/◌, ◌%◌, ◌<◌, ◌≤◌, List, [], ◌∷◌, length, drop, get_or}
use Rattle.std.proofs.Common.{refl, sym, ap, ◌∙◌, arith, Some, None}
use Rattle.std.proofs.lemmas.List.{drop_more}
use Rattle.std.proofs.Math.Nat.{mul-le-mul_right}
use Rattle.duration_texts.specs.Numbers.{value_from, value_of, part_of, tenth, most_nanoseconds}

-- more digits make no number smaller
pub value_from-le : (value : ℕ) (digits : List ℕ) → value ≤ value_from value digits
value_from-le value [] = omega arith
value_from-le value (digit ∷ digits) = omega (arith, value_from-le (value * 10 + (digit - 48)) digits)

pub value_from-above : (value k digit : ℕ) (digits : List ℕ) (d : ℕ) → k < length digits → value_from value (drop k digits) ≡ value_of digits
    → digit ≡ get_or digits k d - 48 → most_nanoseconds < value * 10 + digit → most_nanoseconds < value_of digits
value_from-above value k digit digits d low e is above =
    let here : value_from (value * 10 + digit) (drop (k + 1) digits) ≡ value_of digits = sym (rw (drop_more digits k d low) (rw is refl)) ∙ e in
    omega (arith, here, above, value_from-le (value * 10 + digit) (drop (k + 1) digits))

-- the part of digits in front of others
pub part_of-more : (unit k part : ℕ) (digits : List ℕ) (d : ℕ) → k < length digits → part_of unit (drop (k + 1) digits) ≡ Some part
    → part_of unit (drop k digits) ≡ tenth ((get_or digits k d - 48) * unit + part)
part_of-more unit k part digits d low e = rw (drop_more digits k d low) (rw e refl)

-- it is not whole where that of the digits after them is not
pub part_of-none : (unit k : ℕ) (digits : List ℕ) → part_of unit (drop k digits) ≡ None → part_of unit digits ≡ None
part_of-none unit zero digits e = e
part_of-none unit (suc k) [] e = e
part_of-none unit (suc k) (digit ∷ digits) e = rw (part_of-none unit k digits e) refl

-- the byte before those whose part is known, with the sum of the two
pub part_of-before : (unit k part digit : ℕ) (digits : List ℕ) (d : ℕ) → 0 < k → k ≤ length digits → part_of unit (drop k digits) ≡ Some part
    → digit ≡ get_or digits (k - 1) d - 48 → part_of unit (drop (k - 1) digits) ≡ tenth (digit * unit + part)
part_of-before unit zero part digit digits d some within e is = absurd (omega (arith, some))
part_of-before unit (suc k) part digit digits d some within e is =
    let back : suc k - 1 ≡ k = omega arith in
    let next : suc k ≡ k + 1 = omega arith in
    let after : part_of unit (drop (k + 1) digits) ≡ Some part = ap (λ (n : ℕ). part_of unit (drop n digits)) (sym next) ∙ e in
    let place : get_or digits (suc k - 1) d ≡ get_or digits k d = ap (λ (n : ℕ). get_or digits n d) back in
    ap (λ (n : ℕ). part_of unit (drop n digits)) back
    ∙ part_of-more unit k part digits d (omega (arith, within)) after
    ∙ ap (λ (n : ℕ). tenth ((n - 48) * unit + part)) (sym place)
    ∙ ap (λ (n : ℕ). tenth (n * unit + part)) (sym is)

-- a number that is a multiple of ten has a tenth, and no other
pub tenth-whole : (n : ℕ) → n % 10 ≡ 0 → tenth n ≡ Some (n / 10)
tenth-whole n e = rw e refl

pub tenth-none : (n : ℕ) → (n % 10 ≡ 0 → ⊥) → tenth n ≡ None
tenth-none n e = grind arith

pub part_of-ends : (unit k part digit : ℕ) (digits : List ℕ) (d : ℕ) → 0 < k → k ≤ length digits → part_of unit (drop k digits) ≡ Some part
    → digit ≡ get_or digits (k - 1) d - 48 → ((digit * unit + part) % 10 ≡ 0 → ⊥) → None ≡ part_of unit digits
part_of-ends unit k part digit digits d some within e is rest =
    sym (part_of-none unit (k - 1) digits (part_of-before unit k part digit digits d some within e is ∙ tenth-none (digit * unit + part) rest))

-- the part stays below a multiple of the unit
pub part_of-bound : (unit part digit : ℕ) → digit < 256 → digit ≤ 207 → part ≤ 23 * unit → (digit * unit + part) / 10 ≤ 23 * unit
part_of-bound unit part digit byte low bound =
    let most : digit * unit ≤ 207 * unit = grind (arith, mul-le-mul_right) in
    omega (arith, most, bound)

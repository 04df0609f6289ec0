-- The number of a few digits.
use Rattle.std.proofs.Common.{◌≡◌, ℕ, ◌+◌, ◌-◌, ◌*◌, List, [], ◌∷◌, length, get_or, refl, arith}
use Rattle.zone_files.specs.Numbers.{value_of}

pub value_of-1 : (digits : List ℕ) (d : ℕ) → length digits ≡ 1 → value_of digits ≡ get_or digits 0 d - 48
value_of-1 [] d e = absurd (omega (arith, e))
value_of-1 (a ∷ []) d e = omega arith
value_of-1 (a ∷ b ∷ digits) d e = absurd (omega (arith, e))

pub value_of-2 : (digits : List ℕ) (d : ℕ) → length digits ≡ 2 → value_of digits ≡ (get_or digits 0 d - 48) * 10 + (get_or digits 1 d - 48)
value_of-2 [] d e = absurd (omega (arith, e))
value_of-2 (a ∷ []) d e = absurd (omega (arith, e))
value_of-2 (a ∷ b ∷ []) d e = omega arith
value_of-2 (a ∷ b ∷ c ∷ digits) d e = absurd (omega (arith, e))

pub value_of-3 : (digits : List ℕ) (d : ℕ) → length digits ≡ 3
    → value_of digits ≡ (get_or digits 0 d - 48) * 100 + (get_or digits 1 d - 48) * 10 + (get_or digits 2 d - 48)
value_of-3 [] d e = absurd (omega (arith, e))
value_of-3 (a ∷ []) d e = absurd (omega (arith, e))
value_of-3 (a ∷ b ∷ []) d e = absurd (omega (arith, e))
value_of-3 (a ∷ b ∷ c ∷ []) d e = omega arith
value_of-3 (a ∷ b ∷ c ∷ f ∷ digits) d e = absurd (omega (arith, e))

pub value_of-0 : (digits : List ℕ) → length digits ≡ 0 → value_of digits ≡ 0
value_of-0 [] e = refl
value_of-0 (a ∷ digits) e = absurd (omega (arith, e))

pub ruleset values = (value_of-0, value_of-1, value_of-2, value_of-3)

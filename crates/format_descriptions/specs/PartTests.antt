-- Numbers with signs, and the tests of a number against a part that is known.
use Rattle.std.specs.Prelude.{ℕ, ◌==◌, Bool, true, false, not, if◌then◌else◌, Option, Some, None, ℤ, pos, neg_ℤ}
use Rattle.std.specs.Ordering.{int_eq}

-- a number with its sign
abbrev pub signed : Bool → ℕ → ℤ
signed is_negative n = if is_negative then neg_ℤ (pos n) else pos n

-- a part is not known yet, or is known to be this
abbrev pub fits : Option ℕ → ℕ → Bool
fits None n = true
fits (Some known) n = known == n

-- the same of a number with a sign
abbrev pub fits_signed : Option ℤ → ℤ → Bool
fits_signed None n = true
fits_signed (Some known) n = int_eq known n

-- the same of a choice of two
abbrev pub fits_choice : Option Bool → Bool → Bool
fits_choice None b = true
fits_choice (Some true) b = b
fits_choice (Some false) b = not b

-- The bounds that are finer than a nanosecond.
use Rattle.std.specs.Prelude.{◌≡◌, ℕ, ◌==◌, Bool, false, not, List, [], ◌++◌, codes, drop}
use Rattle.std.specs.List.{list_any}
use Rattle.rfc3339.specs.Form.{IsDateTime}
use Rattle.rfc3339.specs.declared.parts.Parts.{Parts}
use Rattle.stamps.specs.Arguments.{is_finer}

-- whether a digit is not 0
abbrev pub is_not_zero : ℕ → Bool
is_not_zero digit = not (digit == 48)

-- a date-time of RFC 3339 is finer exactly if its fraction has a digit past the ninth that is not 0
pub record BoundsAreExact : Type 0 where
  pub whole : (text : List ℕ) (p : Parts) (h : IsDateTime text p) → h.fraction ≡ [] → is_finer text ≡ false
  pub digits : (text : List ℕ) (p : Parts) (h : IsDateTime text p) (digits : List ℕ) → h.fraction ≡ codes "." ++ digits
      → is_finer text ≡ list_any is_not_zero (drop 9 digits)

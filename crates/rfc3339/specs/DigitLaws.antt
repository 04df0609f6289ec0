-- Laws of texts with a number of digits of the fraction, proved by functions of `src/laws.rt`.
use Rattle.std.specs.Prelude.{◌≡◌, ℕ, ◌-◌, ◌^◌, ◌≤◌, List, Ok}
use Rattle.std.specs.Cmp.Lexicographic.{slice_cmp}
use Rattle.std.specs.Ordering.{nat_cmp, int_cmp}
use Rattle.offset_times.specs.Local.{Local, local_multiple_below}
use Rattle.plain_times.specs.Truncations.{wall_multiple_below}
use Rattle.rfc3339.specs.Reading.{reading_of}
use Rattle.rfc3339.specs.Texts.{HasText, digits_text}

-- the reading of a text with a number of digits is the date-time truncated to the last of them
abbrev pub TextsOfDigitsTruncate : Type 0
TextsOfDigitsTruncate =
    (digits : ℕ) (at : Local) → digits ≤ 9 → HasText at
    → reading_of (digits_text digits at) ≡ Ok (local_multiple_below (10 ^ (9 - digits)) at)

-- texts with the same number of digits, at one offset, compare byte by byte as the truncated date-times do
abbrev pub TextsOfDigitsKeepTheOrder : Type 0
TextsOfDigitsKeepTheOrder =
    (digits : ℕ) (a b : Local) (first second : List ℕ) → digits ≤ 9 → HasText a → HasText b → a.offset ≡ b.offset
    → first ≡ digits_text digits a → second ≡ digits_text digits b
    → slice_cmp nat_cmp first second ≡ int_cmp (wall_multiple_below (10 ^ (9 - digits)) a.wall) (wall_multiple_below (10 ^ (9 - digits)) b.wall)

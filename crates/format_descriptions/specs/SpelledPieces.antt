-- Pieces of texts: digits that write a number, after a sign or spaces, and the letters of a word.
use Rattle.std.specs.Prelude.{◌≡◌, ℕ, zero, suc, ◌+◌, ◌-◌, ◌<◌, ◌≤◌, ◌⊎◌, Bool, true, false, List, ◌++◌, codes, length, replicate, IsTrue}
use Rattle.std.specs.Char.{is_ascii_digit}
use Rattle.std.specs.List.{list_all}
use Rattle.std.specs.Str.{str_to_ascii_lowercase}
use Rattle.std.specs.Str.Parse.{digits_value}
use Rattle.rfc3339.specs.Form.{fraction_value}
use Rattle.format_descriptions.specs.declared.modifiers.Padding.{Padding}
use Rattle.format_descriptions.specs.declared.modifiers.Padding.TheVariants.{Zero, Space, Bare}
use Rattle.format_descriptions.specs.declared.modifiers.ReadCase.{ReadCase}
use Rattle.format_descriptions.specs.declared.modifiers.ReadCase.TheVariants.{Same, Any}
use Rattle.format_descriptions.specs.declared.modifiers.Sign.{Sign}
use Rattle.format_descriptions.specs.declared.modifiers.Sign.TheVariants.{Automatic, Mandatory}
use Rattle.format_descriptions.specs.declared.modifiers.YearRange.{YearRange}
use Rattle.format_descriptions.specs.declared.modifiers.YearRange.TheVariants.{Standard, Extended}

-- ---- numbers

-- a number in decimal digits: there are `least` to `most` of them
pub record IsDecimal (least most n : ℕ) (piece : List ℕ) : Type 0 where
  pub are : IsTrue (list_all is_ascii_digit piece)
  pub at_least : least ≤ length piece
  pub at_most : length piece ≤ most
  pub value : n ≡ digits_value 10 piece

-- a number by its padding: zeros or spaces fill it up to its width, or nothing does
abbrev pub IsNumeral : Padding → ℕ → ℕ → ℕ → List ℕ → Type 0
IsNumeral Zero width most n piece = IsDecimal width most n piece
IsNumeral Space width most n piece =
    (spaces : ℕ) × (digits : List ℕ) × (spaces < width) × (piece ≡ replicate spaces 32 ++ digits)
    × IsDecimal (width - spaces) (most - spaces) n digits
IsNumeral Bare width most n piece = IsDecimal 1 most n piece

-- a number without a sign
abbrev pub IsUnsigned : Padding → ℕ → Bool × ℕ → List ℕ → Type 0
IsUnsigned padding width n piece = (n.0 ≡ false) × IsNumeral padding width width n.1 piece

-- a sign
abbrev pub sign_text : Bool → List ℕ
sign_text true = codes "-"
sign_text false = codes "+"

-- a number after a sign, which may have more digits than its width
abbrev pub IsAfterSign : Padding → ℕ → ℕ → Bool × ℕ → List ℕ → Type 0
IsAfterSign padding width more n piece =
    (number : List ℕ) × (piece ≡ sign_text n.0 ++ number) × IsNumeral padding width (width + more) n.1 number

-- a number with its sign, or without one where the sign is automatic
abbrev pub IsSigned : Sign → Padding → ℕ → ℕ → Bool × ℕ → List ℕ → Type 0
IsSigned Automatic padding width more n piece = IsAfterSign padding width more n piece ⊎ IsUnsigned padding width n piece
IsSigned Mandatory padding width more n piece = IsAfterSign padding width more n piece

-- how many digits more a year has after a sign
abbrev pub more_digits : YearRange → ℕ
more_digits Standard = 0
more_digits Extended = 2

-- this number of digits, or one or more where the count is 0
abbrev pub HasCount : ℕ → ℕ → Type 0
HasCount zero size = 1 ≤ size
HasCount (suc count) size = size ≡ suc count

-- the digits of a fraction, in nanoseconds: those after the ninth count nothing
pub record IsSubsecond (count n : ℕ) (piece : List ℕ) : Type 0 where
  pub are : IsTrue (list_all is_ascii_digit piece)
  pub size : HasCount count (length piece)
  pub value : n ≡ fraction_value 100_000_000 piece

-- ---- words

-- the letters of a word, in its case or in any
abbrev pub IsWord : ReadCase → List ℕ → List ℕ → Type 0
IsWord Same word piece = piece ≡ word
IsWord Any word piece = str_to_ascii_lowercase piece ≡ str_to_ascii_lowercase word

-- the hour that a half of the day begins with
abbrev pub first_hour : Bool → ℕ
first_hour true = 12
first_hour false = 0

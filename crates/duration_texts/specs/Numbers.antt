-- The numbers of a duration's text: digits, perhaps a point and more digits; and their nanoseconds in a unit.
use Rattle.std.specs.Prelude.{ℕ, ◌+◌, ◌-◌, ◌*◌, ◌/◌, ◌%◌, ◌^◌, ◌==◌, ◌≡◌, ◌<◌, IsTrue, List, [], ◌∷◌, ◌++◌, length}
use Rattle.std.specs.Prelude.{Option, Some, None, if◌then◌else◌}
use Rattle.std.specs.Char.{is_ascii_digit}
use Rattle.std.specs.List.{list_all}
use Rattle.std.specs.Option.{option_and_then}

-- a number: the digits before the point, and those after it; none of them, and there is no point
pub record Number : Type 0 where
  pub whole : List ℕ
  pub fraction : List ℕ

-- the number of these digits before and after the point
abbrev pub number_of : List ℕ → List ℕ → Number
number_of whole fraction = record { whole = whole; fraction = fraction }

-- a point and digits, if there are any
abbrev pub fraction_text : List ℕ → List ℕ
fraction_text [] = []
fraction_text (digit ∷ digits) = 46 ∷ digit ∷ digits

-- the text of a number
abbrev pub number_text : Number → List ℕ
number_text number = number.whole ++ fraction_text number.fraction

-- digits, at least one of them before the point
pub record IsNumber (number : Number) : Type 0 where
  pub some : 0 < length number.whole
  pub whole : IsTrue (list_all is_ascii_digit number.whole)
  pub fraction : IsTrue (list_all is_ascii_digit number.fraction)

-- the number that digits continue
abbrev pub value_from : ℕ → List ℕ → ℕ
value_from value [] = value
value_from value (digit ∷ digits) = value_from (value * 10 + (digit - 48)) digits

-- the number of decimal digits
abbrev pub value_of : List ℕ → ℕ
value_of digits = value_from 0 digits

-- n nanoseconds are this number of a unit: the fraction is a whole number f of them
pub record HasNanoseconds (unit : ℕ) (number : Number) (n : ℕ) : Type 0 where
  pub part : ℕ
  pub fraction : part * 10 ^ length number.fraction ≡ value_of number.fraction * unit
  pub whole : n ≡ value_of number.whole * unit + part

-- a tenth of a number, if it is whole
abbrev pub tenth : ℕ → Option ℕ
tenth n = if n % 10 == 0 then Some (n / 10) else None

-- the nanoseconds of the digits after the point, if they are whole
abbrev pub part_of : ℕ → List ℕ → Option ℕ
part_of unit [] = Some 0
part_of unit (digit ∷ digits) = option_and_then (λ part. tenth ((digit - 48) * unit + part)) (part_of unit digits)

-- the greatest number of nanoseconds of a term: those from the least duration to the greatest
abbrev pub most_nanoseconds : ℕ
most_nanoseconds = 18_446_744_073_709_551_616_999_999_998

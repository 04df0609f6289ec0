-- The numbers of a line.
use Rattle.std.specs.Prelude.{ℕ, ◌-◌, ◌^◌, Bool, false, List, [], ◌∷◌, drop, if◌then◌else◌, ℤ, pos, neg_ℤ, unsigned_abs, Option, Some, None}
use Rattle.std.specs.Char.{is_ascii_digit}
use Rattle.std.specs.List.{list_all}
use Rattle.std.specs.Option.{option_map}
use Rattle.std.specs.Str.Parse.{starts_with_minus, digits_value}
use Rattle.calendar_values.specs.Range.{is_outside}

-- the text after the `-`, if there is one
abbrev pub number_digits : List ℕ → List ℕ
number_digits text = if starts_with_minus text then drop 1 text else text

-- whether a text is at least one decimal digit, and nothing else
abbrev pub is_numeral : List ℕ → Bool
is_numeral [] = false
is_numeral (digit ∷ digits) = list_all is_ascii_digit (digit ∷ digits)

-- the value of the digits, below 0 if a `-` is before them
abbrev pub number_value : List ℕ → ℤ
number_value text =
    if starts_with_minus text then neg_ℤ (pos (digits_value 10 (number_digits text)))
    else pos (digits_value 10 (number_digits text))

-- the number that a text writes: an optional `-`, then at least one digit; zeros in front are allowed
unfoldable pub number_of : List ℕ → Option ℤ
number_of text = if is_numeral (number_digits text) then Some (number_value text) else None

-- the number, if it is one from the first to the last
abbrev pub number_in : ℤ → ℤ → Option ℤ → Option ℤ
number_in first last None = None
number_in first last (Some n) = if is_outside first last n then None else Some n

-- a number of 64 bits, one of them for the sign
unfoldable pub i64_of : List ℕ → Option ℤ
i64_of text = number_in (neg_ℤ (pos (2 ^ 63))) (pos (2 ^ 63 - 1)) (number_of text)

-- a number of 32 bits, one of them for the sign
unfoldable pub i32_of : List ℕ → Option ℤ
i32_of text = number_in (neg_ℤ (pos (2 ^ 31))) (pos (2 ^ 31 - 1)) (number_of text)

-- a number not below 0, and at most this
unfoldable pub up_to : ℕ → List ℕ → Option ℕ
up_to most text = option_map unsigned_abs (number_in (pos 0) (pos most) (number_of text))

-- a number of 32 bits, not below 0
abbrev pub u32_of : List ℕ → Option ℕ
u32_of text = up_to (2 ^ 32 - 1) text

-- a number of 16 bits, not below 0
abbrev pub u16_of : List ℕ → Option ℕ
u16_of text = up_to (2 ^ 16 - 1) text

-- a number of 8 bits, not below 0
abbrev pub u8_of : List ℕ → Option ℕ
u8_of text = up_to (2 ^ 8 - 1) text

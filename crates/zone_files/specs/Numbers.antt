-- The numbers of a rule's text.
use Rattle.std.specs.Prelude.{ℕ, ◌+◌, ◌-◌, ◌*◌, nat_le, Bool, ◌&&◌, List, [], ◌∷◌, length, Option, Some, None, if◌then◌else◌}
use Rattle.zone_files.specs.declared.numbers.Field.{Field}
use Rattle.zone_files.specs.declared.numbers.Field.TheVariants.{Month, Week, Weekday, Common, Counted, OffsetHours, TimeHours, Sixtieth}

-- the least number of digits of a field, and the greatest
abbrev pub least_digits : Field → ℕ
least_digits Month = 1
least_digits Week = 1
least_digits Weekday = 1
least_digits Common = 1
least_digits Counted = 1
least_digits OffsetHours = 1
least_digits TimeHours = 1
least_digits Sixtieth = 2

abbrev pub most_digits : Field → ℕ
most_digits Month = 2
most_digits Week = 1
most_digits Weekday = 1
most_digits Common = 3
most_digits Counted = 3
most_digits OffsetHours = 3
most_digits TimeHours = 3
most_digits Sixtieth = 2

-- the least number of a field, and the greatest
abbrev pub low : Field → ℕ
low Month = 1
low Week = 1
low Weekday = 0
low Common = 1
low Counted = 0
low OffsetHours = 0
low TimeHours = 0
low Sixtieth = 0

abbrev pub high : Field → ℕ
high Month = 12
high Week = 5
high Weekday = 6
high Common = 365
high Counted = 365
high OffsetHours = 24
high TimeHours = 167
high Sixtieth = 59

-- the number that digits continue
abbrev pub value_from : ℕ → List ℕ → ℕ
value_from value [] = value
value_from value (digit ∷ digits) = value_from (value * 10 + (digit - 48)) digits

-- the number of decimal digits
abbrev pub value_of : List ℕ → ℕ
value_of digits = value_from 0 digits

-- a field has as many digits, and a number of its range
abbrev pub is_number : Field → List ℕ → Bool
is_number field digits =
    nat_le (least_digits field) (length digits) && (nat_le (length digits) (most_digits field) && (nat_le (low field) (value_of digits) && nat_le
    (value_of digits) (high field)))

-- the number of the digits of a field
abbrev pub number_of : Field → List ℕ → Option ℕ
number_of field digits = if is_number field digits then Some (value_of digits) else None

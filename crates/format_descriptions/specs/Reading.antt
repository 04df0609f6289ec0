-- Numbers, names and signs, read from the front of a text: each returns its value and the rest of the text.
use Rattle.std.specs.Prelude.{ℕ, suc, zero, ◌+◌, ◌-◌, ◌*◌, ◌/◌, ◌%◌, ◌==◌, Bool, true, false, List, [], ◌∷◌, if◌then◌else◌, nat_lt}
use Rattle.std.specs.Prelude.{Option, Some, None, drop, length}
use Rattle.std.specs.Char.{to_ascii_lowercase}
use Rattle.rfc3339.specs.Reading.{◌>>=◌, digit_at, two_digits_at, mark_at, year_at, digits_at}
use Rattle.format_descriptions.specs.Modifiers.{reads_any_case, first_weekday, first_number}
use Rattle.format_descriptions.specs.Names.{name_of_month, name_of_weekday}
use Rattle.format_descriptions.specs.Written.{name_in_form, period_text}
use Rattle.format_descriptions.specs.declared.modifiers.Case.{Case}
use Rattle.format_descriptions.specs.declared.modifiers.NameForm.{NameForm}
use Rattle.format_descriptions.specs.declared.modifiers.Padding.{Padding}
use Rattle.format_descriptions.specs.declared.modifiers.Padding.TheVariants.{Zero, Space, Bare}
use Rattle.format_descriptions.specs.declared.modifiers.Sign.{Sign}
use Rattle.format_descriptions.specs.declared.modifiers.ReadCase.{ReadCase}
use Rattle.format_descriptions.specs.declared.modifiers.Sign.TheVariants.{Automatic, Mandatory}
use Rattle.format_descriptions.specs.declared.modifiers.WeekStart.{WeekStart}
use Rattle.format_descriptions.specs.declared.modifiers.WeekdayCount.{WeekdayCount}
use Rattle.format_descriptions.specs.declared.modifiers.YearRange.{YearRange}
use Rattle.format_descriptions.specs.declared.modifiers.YearRange.TheVariants.{Standard, Extended}

-- a number, and another digit if there is one
abbrev pub digit_more : ℕ × List ℕ → Option (ℕ × List ℕ) → Option (ℕ × List ℕ)
digit_more first None = Some first
digit_more first (Some digit) = Some (first.0 * 10 + digit.0, digit.1)

-- a digit after a space, or else two digits
abbrev pub spaced_two : List ℕ → Option (List ℕ) → Option (ℕ × List ℕ)
spaced_two text None = two_digits_at text
spaced_two text (Some digits) = digit_at digits

-- a number of two digits, or of one, by its padding
unfoldable pub two_at : Padding → List ℕ → Option (ℕ × List ℕ)
two_at Zero text = two_digits_at text
two_at Space text = spaced_two text (mark_at 32 text)
two_at Bare text = digit_at text >>= λ first. digit_more first (digit_at first.1)

-- three digits
unfoldable pub three_digits_at : List ℕ → Option (ℕ × List ℕ)
three_digits_at text = do
  hundreds ← digit_at text
  number ← two_digits_at hundreds.1
  Some (hundreds.0 * 100 + number.0, number.1)

-- a number of two digits after a space, or else three digits
abbrev pub spaced_three : List ℕ → Option (List ℕ) → Option (ℕ × List ℕ)
spaced_three text None = three_digits_at text
spaced_three text (Some rest) = two_at Space rest

-- a number of three digits, or of fewer, by its padding
unfoldable pub three_at : Padding → List ℕ → Option (ℕ × List ℕ)
three_at Zero text = three_digits_at text
three_at Space text = spaced_three text (mark_at 32 text)
three_at Bare text = two_at Bare text >>= λ two. digit_more two (digit_at two.1)

-- a number of `count` digits: the first counts in this unit, each other in a tenth of the unit before
unfoldable pub counted_at : ℕ → ℕ → List ℕ → Option (ℕ × List ℕ)
counted_at zero unit text = Some (0, text)
counted_at (suc count) unit text = do
  digit ← digit_at text
  more ← counted_at count (unit / 10) digit.1
  Some (digit.0 * unit + more.0, more.1)

-- all the digits of a fraction, in nanoseconds, after the first is seen
abbrev pub fraction_of : List ℕ → Option (ℕ × List ℕ) → Option (ℕ × List ℕ)
fraction_of text None = None
fraction_of text (Some digit) = Some (digits_at 100_000_000 text)

-- the digits of a fraction, in nanoseconds
unfoldable pub fraction_at : ℕ → List ℕ → Option (ℕ × List ℕ)
fraction_at count text = if count == 0 then fraction_of text (digit_at text) else counted_at count 100_000_000 text

-- the sign: true for `-`, and false for `+`
unfoldable pub sign_at : List ℕ → Option (Bool × List ℕ)
sign_at [] = None
sign_at (first ∷ text) = if first == 45 then Some (true, text) else (if first == 43 then Some (false, text) else None)

-- a number without a sign
abbrev pub unsigned : Option (ℕ × List ℕ) → Option ((Bool × ℕ) × List ℕ)
unsigned read = read >>= λ r. Some ((false, r.0), r.1)

-- a number after a sign
abbrev pub with_sign : Bool → Option (ℕ × List ℕ) → Option ((Bool × ℕ) × List ℕ)
with_sign is_negative read = read >>= λ r. Some ((is_negative, r.0), r.1)

-- a number of three digits after a space, or else four digits
abbrev pub spaced_four : List ℕ → Option (List ℕ) → Option (ℕ × List ℕ)
spaced_four text None = year_at text
spaced_four text (Some rest) = three_at Space rest

-- a number of four digits, or of fewer, by its padding
unfoldable pub four_at : Padding → List ℕ → Option (ℕ × List ℕ)
four_at Zero text = year_at text
four_at Space text = spaced_four text (mark_at 32 text)
four_at Bare text = three_at Bare text >>= λ three. digit_more three (digit_at three.1)

-- a number and up to two more digits, where the years of the range have them
unfoldable pub more_at : YearRange → ℕ × List ℕ → Option (ℕ × List ℕ)
more_at Standard read = Some read
more_at Extended read = digit_more read (digit_at read.1) >>= λ one. digit_more one (digit_at one.1)

-- a year after the sign that was found
abbrev pub year_after : Sign → Padding → YearRange → List ℕ → Option (Bool × List ℕ) → Option ((Bool × ℕ) × List ℕ)
year_after sign padding range text (Some found) = with_sign found.0 (four_at padding found.1 >>= λ four. more_at range four)
year_after Automatic padding range text None = unsigned (four_at padding text)
year_after Mandatory padding range text None = None

-- a year: four digits without a sign, or a sign and four to six digits, or just four, by the range
unfoldable pub signed_year_at : Sign → Padding → YearRange → List ℕ → Option ((Bool × ℕ) × List ℕ)
signed_year_at sign padding range text = year_after sign padding range text (sign_at text)

-- a century after the sign that was found
abbrev pub century_after : Sign → Padding → YearRange → List ℕ → Option (Bool × List ℕ) → Option ((Bool × ℕ) × List ℕ)
century_after sign padding range text (Some found) = with_sign found.0 (two_at padding found.1 >>= λ two. more_at range two)
century_after Automatic padding range text None = unsigned (two_at padding text)
century_after Mandatory padding range text None = None

-- a year without its last two digits: two digits without a sign, or a sign and two to four digits, or just two, by the range
unfoldable pub signed_century_at : Sign → Padding → YearRange → List ℕ → Option ((Bool × ℕ) × List ℕ)
signed_century_at sign padding range text = century_after sign padding range text (sign_at text)

-- the hours after the sign that was found
abbrev pub hours_after : Sign → Padding → List ℕ → Option (Bool × List ℕ) → Option ((Bool × ℕ) × List ℕ)
hours_after sign padding text (Some found) = with_sign found.0 (two_at padding found.1)
hours_after Automatic padding text None = unsigned (two_at padding text)
hours_after Mandatory padding text None = None

-- the sign and the hours of an offset
unfoldable pub signed_hours_at : Sign → Padding → List ℕ → Option ((Bool × ℕ) × List ℕ)
signed_hours_at sign padding text = hours_after sign padding text (sign_at text)

-- two letters are equal, except for their case where any case is read
abbrev pub is_letter : ReadCase → ℕ → ℕ → Bool
is_letter case a b = if reads_any_case case then to_ascii_lowercase a == to_ascii_lowercase b else a == b

-- the rest after a letter
unfoldable pub letter_at : ReadCase → ℕ → List ℕ → Option (List ℕ)
letter_at case letter [] = None
letter_at case letter (first ∷ text) = if is_letter case first letter then Some text else None

-- the rest after a word
unfoldable pub word_at : ReadCase → List ℕ → List ℕ → Option (List ℕ)
word_at case [] text = Some text
word_at case (letter ∷ word) text = letter_at case letter text >>= λ rest. word_at case word rest

-- a number whose name was found, or else the result of the others
abbrev pub named : ℕ → Option (ℕ × List ℕ) → Option (List ℕ) → Option (ℕ × List ℕ)
named n others None = others
named n others (Some rest) = Some (n, rest)

-- the number of the month, up to this one, whose name is at the front
unfoldable pub month_at : NameForm → ReadCase → ℕ → List ℕ → Option (ℕ × List ℕ)
month_at form case zero text = None
month_at form case (suc n) text = named (suc n) (month_at form case n text) (word_at case (name_in_form form (name_of_month (suc n))) text)

-- the number of the day of the week, before this one, whose name is at the front
unfoldable pub weekday_at : NameForm → ReadCase → ℕ → List ℕ → Option (ℕ × List ℕ)
weekday_at form case zero text = None
weekday_at form case (suc n) text = named n (weekday_at form case n text) (word_at case (name_in_form form (name_of_weekday n)) text)

-- the day of the week whose number was read, 0 for Monday, if there is one of that number
abbrev pub weekday_numbered : WeekStart → WeekdayCount → ℕ × List ℕ → Option (ℕ × List ℕ)
weekday_numbered start count read =
    if nat_lt read.0 (first_number count) then None
    else (if nat_lt 6 (read.0 - first_number count) then None
    else Some ((read.0 - first_number count + first_weekday start) % 7, read.1))

-- the number of a day of the week
unfoldable pub weekday_number_at : WeekStart → WeekdayCount → List ℕ → Option (ℕ × List ℕ)
weekday_number_at start count text = digit_at text >>= λ digit. weekday_numbered start count digit

-- the half of the day whose word was found: true for the second
abbrev pub half_of : Option (List ℕ) → Option (List ℕ) → Option ((Bool × ℕ) × List ℕ)
half_of (Some rest) afternoon = Some ((false, 0), rest)
half_of None (Some rest) = Some ((true, 0), rest)
half_of None None = None

-- the half of the day
unfoldable pub period_at : Case → ReadCase → List ℕ → Option ((Bool × ℕ) × List ℕ)
period_at case read text = half_of (word_at read (period_text case 0) text) (word_at read (period_text case 12) text)

-- a number and the digit after it, if there is one
abbrev pub with_digit : ℕ × List ℕ → Option (ℕ × List ℕ) → ℕ × List ℕ
with_digit read None = read
with_digit read (Some digit) = (read.0 * 10 + digit.0, digit.1)

-- a number and up to `count` digits after it
unfoldable pub digits_on : ℕ → ℕ × List ℕ → ℕ × List ℕ
digits_on zero read = read
digits_on (suc count) read = digits_on count (with_digit read (digit_at read.1))

-- a number of one to `most` digits
unfoldable pub decimal_at : ℕ → List ℕ → Option (ℕ × List ℕ)
decimal_at most text = digit_at text >>= λ digit. Some (digits_on (most - 1) digit)

-- a number of one to `most` digits after the sign that was found
abbrev pub unix_after : Sign → ℕ → List ℕ → Option (Bool × List ℕ) → Option ((Bool × ℕ) × List ℕ)
unix_after sign most text (Some found) = with_sign found.0 (decimal_at most found.1)
unix_after Automatic most text None = unsigned (decimal_at most text)
unix_after Mandatory most text None = None

-- a Unix timestamp: its sign, and its digits
unfoldable pub unix_at : Sign → ℕ → List ℕ → Option ((Bool × ℕ) × List ℕ)
unix_at sign most text = unix_after sign most text (sign_at text)

-- the rest after `count` bytes, if there are that many
abbrev pub ignored_at : ℕ → List ℕ → Option (List ℕ)
ignored_at count text = if nat_lt (length text) count then None else Some (drop count text)

-- the rest after one digit or more
unfoldable pub past_digits : List ℕ → Option (List ℕ)
past_digits text = digit_at text >>= λ first. Some (digits_at 0 first.1).1

-- the year from this one on that has these last two digits
abbrev pub year_since : ℕ → ℕ → ℕ
year_since first n = first + (n + 100 - first % 100) % 100

-- the year from this one on whose last two digits are at the front
unfoldable pub year_since_at : ℕ → List ℕ → Option (ℕ × List ℕ)
year_since_at first text = two_digits_at text >>= λ n. Some (year_since first n.0, n.1)

-- a sign and six digits
unfoldable pub six_at : List ℕ → Option ((Bool × ℕ) × List ℕ)
six_at text = sign_at text >>= λ found. with_sign found.0 (counted_at 6 100_000 found.1)

-- a number that counts units, each of this number of another unit
abbrev pub in_unit : ℕ → Option (ℕ × List ℕ) → Option (ℕ × List ℕ)
in_unit unit read = read >>= λ r. Some (r.0 * unit, r.1)

-- the end of the text
abbrev pub end_at : List ℕ → Option (List ℕ)
end_at [] = Some []
end_at (first ∷ text) = None

-- the result of a component without a number: no sign, 0 and the rest
abbrev pub nothing : Option (List ℕ) → Option ((Bool × ℕ) × List ℕ)
nothing rest = rest >>= λ rest. Some ((false, 0), rest)

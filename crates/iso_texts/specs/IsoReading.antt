-- The reading of a text from its front on: each step returns its value and the rest of the text.
use Rattle.std.specs.Prelude.{ℕ, ◌+◌, ◌*◌, ◌==◌, ◌||◌, Bool, false, nat_lt, List, [], ◌∷◌, if◌then◌else◌, Option, Some, None, Result, Err}
use Rattle.offset_times.specs.Local.{Local}
use Rattle.rfc3339.specs.Reading.{◌>>=◌, two_digits_at, part_at, year_at, separator_at, fraction_at, zone_at, with_no_rest}
use Rattle.rfc3339.specs.declared.refusal.TextRefusal.{TextRefusal}
use Rattle.rfc3339.specs.declared.refusal.TextRefusal.TheVariants.{Syntax}
use Rattle.iso_texts.specs.IsoMeaning.{iso_meaning}
use Rattle.iso_texts.specs.declared.parts.IsoParts.{IsoParts}

-- the byte is a sign: `+` or `-`
abbrev pub is_sign : ℕ → Bool
is_sign byte = (byte == 43) || (byte == 45)

-- six digits of a year, after its sign
abbrev pub six_digits_on : Bool → List ℕ → Option ((Bool × ℕ) × List ℕ)
six_digits_on is_before text = do
  front ← two_digits_at text
  back ← year_at front.1
  Some ((is_before, front.0 * 10_000 + back.0), back.1)

-- four digits of a year
abbrev pub four_digits_on : List ℕ → Option ((Bool × ℕ) × List ℕ)
four_digits_on text = do
  year ← year_at text
  Some ((false, year.0), year.1)

-- a sign and six digits, or four digits
unfoldable pub iso_year_at : List ℕ → Option ((Bool × ℕ) × List ℕ)
iso_year_at [] = None
iso_year_at (first ∷ text) = if is_sign first then six_digits_on (first == 45) text else four_digits_on (first ∷ text)

-- a number, if it is less than 60
abbrev pub if_below_60 : ℕ → Option ℕ
if_below_60 second = if nat_lt second 60 then Some second else None

-- the seconds of an offset, or nothing, and no more text
unfoldable pub seconds_at : List ℕ → Option ℕ
seconds_at [] = Some 0
seconds_at (first ∷ text) = do
  second ← part_at 58 (first ∷ text)
  below ← if_below_60 second.0
  with_no_rest below second.1

-- the text begins with a sign
abbrev pub begins_with_sign : List ℕ → Bool
begins_with_sign [] = false
begins_with_sign (first ∷ text) = is_sign first

-- what follows the hours and the minutes of an offset: seconds after a sign, and nothing after a letter
abbrev pub seconds_on : Bool → List ℕ → Option ℕ
seconds_on is_signed text = if is_signed then seconds_at text else with_no_rest 0 text

-- an offset and no more text: the sign, the hours and the minutes, and the seconds
unfoldable pub iso_offset_at : List ℕ → Option ((Bool × ℕ × ℕ) × ℕ)
iso_offset_at text = do
  zone ← zone_at text
  second ← seconds_on (begins_with_sign text) zone.1
  Some (zone.0, second)

-- the numbers of a text, those of its year and those of its offset together
abbrev pub iso_parts_read : Bool × ℕ → (month day hour minute second nanosecond : ℕ) → (Bool × ℕ × ℕ) × ℕ → IsoParts
iso_parts_read year month day hour minute second nanosecond offset = record {
  is_before = year.0;
  year = year.1;
  month = month;
  day = day;
  hour = hour;
  minute = minute;
  second = second;
  nanosecond = nanosecond;
  is_west = offset.0.0;
  offset_hour = offset.0.1;
  offset_minute = offset.0.2;
  offset_second = offset.1;
}

-- a second, a fraction and an offset, after the date, the hour and the minute
abbrev pub iso_second_on : Bool × ℕ → ℕ → ℕ → ℕ → ℕ → List ℕ → Option IsoParts
iso_second_on year month day hour minute text = do
  second ← part_at 58 text
  fraction ← fraction_at second.1
  offset ← iso_offset_at fraction.1
  Some (iso_parts_read year month day hour minute second.0 fraction.0 offset)

-- a separator, an hour and a minute, and so on, after the date
abbrev pub iso_time_on : Bool × ℕ → ℕ → ℕ → List ℕ → Option IsoParts
iso_time_on year month day text = do
  clock ← separator_at text
  hour ← two_digits_at clock
  minute ← part_at 58 hour.1
  iso_second_on year month day hour.0 minute.0 minute.1

-- the numbers of a text
unfoldable pub iso_parts_at : List ℕ → Option IsoParts
iso_parts_at text = do
  year ← iso_year_at text
  month ← part_at 45 year.1
  day ← part_at 45 month.1
  iso_time_on year.0 month.0 day.0 day.1

-- the meaning of the numbers, or a syntax error if there are none
abbrev pub iso_meaning_if_any : Option IsoParts → Result Local TextRefusal
iso_meaning_if_any None = Err Syntax
iso_meaning_if_any (Some p) = iso_meaning p

-- the reading of a text: a wall clock at an offset, or an error
unfoldable pub iso_reading_of : List ℕ → Result Local TextRefusal
iso_reading_of text = iso_meaning_if_any (iso_parts_at text)

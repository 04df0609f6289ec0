-- A day as a text of RFC 3339 (`full-date` of section 5.6): a year of four digits, a month and a day of the month.
use Rattle.std.specs.Prelude.{◌≡◌, ℕ, ◌<◌, ◌==◌, ◌||◌, nat_lt, List, ◌++◌, codes, if◌then◌else◌, ℤ, pos, ◌≤ℤ◌, unsigned_abs}
use Rattle.std.specs.Prelude.{Option, Some, None, Result, Ok, Err}
use Rattle.calendar_values.specs.Calendar.{is_leap_year, days_in_month, day_of_calendar_date, year_of, month_of, day_of_month_of}
use Rattle.calendar_values.specs.Digits.{last_digits}
use Rattle.rfc3339.specs.Reading.{◌>>=◌, year_at, part_at, with_no_rest}
use Rattle.rfc3339.specs.declared.refusal.Component.TheVariants.{Month, Day}
use Rattle.rfc3339.specs.declared.refusal.TextRefusal.{TextRefusal}
use Rattle.rfc3339.specs.declared.refusal.TextRefusal.TheVariants.{Syntax, OutOfRange}

-- the digits of these numbers
abbrev pub full_date_digits : ℕ → ℕ → ℕ → List ℕ
full_date_digits year month day = last_digits 4 year ++ codes "-" ++ last_digits 2 month ++ codes "-" ++ last_digits 2 day

-- the text has the form, and spells these numbers
pub record IsFullDate (text : List ℕ) (year month day : ℕ) : Type 0 where
  pub spelled : text ≡ full_date_digits year month day
  pub year_fits : year < 10_000
  pub month_fits : month < 100
  pub day_fits : day < 100

-- the day of these numbers, or the first of them that is out of range
abbrev pub full_date_meaning : ℕ → ℕ → ℕ → Result ℤ TextRefusal
full_date_meaning year month day =
    if month == 0 || nat_lt 12 month then Err (OutOfRange Month)
    else (if day == 0 || nat_lt (days_in_month (is_leap_year (pos year)) month) day then Err (OutOfRange Day)
    else Ok (day_of_calendar_date (pos year) month day))

-- RFC 3339 has a text of the day: its year has four digits
pub record HasFullDate (n : ℤ) : Type 0 where
  pub year_first : pos 0 ≤ℤ year_of n
  pub year_last : year_of n ≤ℤ pos 9_999

-- the text of a day
unfoldable pub full_date_text : ℤ → List ℕ
full_date_text n = full_date_digits (unsigned_abs (year_of n)) (month_of n) (day_of_month_of n)

-- the numbers of a text, read from its front on
unfoldable pub full_date_at : List ℕ → Option (ℕ × ℕ × ℕ)
full_date_at text = do
  year ← year_at text
  month ← part_at 45 year.1
  day ← part_at 45 month.1
  with_no_rest (year.0, month.0, day.0) day.1

-- the meaning of these numbers, or a syntax error if there are none
abbrev pub full_date_meaning_if_any : Option (ℕ × ℕ × ℕ) → Result ℤ TextRefusal
full_date_meaning_if_any None = Err Syntax
full_date_meaning_if_any (Some (year, month, day)) = full_date_meaning year month day

-- the reading of a text: a day, or an error
unfoldable pub full_date_reading_of : List ℕ → Result ℤ TextRefusal
full_date_reading_of text = full_date_meaning_if_any (full_date_at text)

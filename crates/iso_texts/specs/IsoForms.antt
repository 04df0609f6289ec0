-- The grammar of a date-time of ISO 8601 whose year can have a sign and six digits, and the numbers that its texts spell.
use Rattle.std.specs.Prelude.{◌≡◌, ℕ, ◌<◌, Bool, false, List, [], ◌∷◌, ◌++◌, if◌then◌else◌, IsTrue, codes}
use Rattle.calendar_values.specs.Digits.{last_digits}
use Rattle.rfc3339.specs.Form.{is_separator, IsFraction, IsOffsetText}
use Rattle.iso_texts.specs.declared.parts.IsoParts.{IsoParts}

-- the sign of a number: `-` or `+`
abbrev pub sign : Bool → List ℕ
sign is_below = if is_below then codes "-" else codes "+"

-- a year: four digits, or a sign and six digits
pub data IsYearText (text : List ℕ) (is_before : Bool) (year : ℕ) : Type 0 where
  of_four : year < 10_000 → is_before ≡ false → text ≡ last_digits 4 year → IsYearText text is_before year
  of_six : year < 1_000_000 → text ≡ sign is_before ++ last_digits 6 year → IsYearText text is_before year

-- the hours and the minutes of an offset, with their sign
abbrev pub hours_and_minutes : Bool → ℕ → ℕ → List ℕ
hours_and_minutes is_west hour minute = sign is_west ++ last_digits 2 hour ++ codes ":" ++ last_digits 2 minute

-- an offset: one of RFC 3339, or hours, minutes and seconds of a sign, of which the seconds are less than 60
pub data IsIsoOffsetText (text : List ℕ) (is_west : Bool) (hour minute second : ℕ) : Type 0 where
  to_minute : IsOffsetText text is_west hour minute → second ≡ 0 → IsIsoOffsetText text is_west hour minute second
  to_second : text ≡ hours_and_minutes is_west hour minute ++ (codes ":" ++ last_digits 2 second) → second < 60
      → IsIsoOffsetText text is_west hour minute second

-- each number fits the two digits that it has
pub record FitsIsoDigits (p : IsoParts) : Type 0 where
  pub month : p.month < 100
  pub day : p.day < 100
  pub hour : p.hour < 100
  pub minute : p.minute < 100
  pub second : p.second < 100
  pub offset_hour : p.offset_hour < 100
  pub offset_minute : p.offset_minute < 100

-- the month and the day, a separator, the hour, the minute and the second
abbrev pub after_year : IsoParts → ℕ → List ℕ
after_year p separator =
    codes "-" ++ last_digits 2 p.month ++ codes "-" ++ last_digits 2 p.day ++ separator ∷ []
    ++ last_digits 2 p.hour ++ codes ":" ++ last_digits 2 p.minute ++ codes ":" ++ last_digits 2 p.second

-- the text of a year, a month, a day, a separator, a time of day, a fraction and an offset
abbrev pub iso_spelling : IsoParts → List ℕ → ℕ → List ℕ → List ℕ → List ℕ
iso_spelling p year separator fraction offset = year ++ after_year p separator ++ fraction ++ offset

-- the grammar derives the text, which spells these numbers
pub record IsIsoDateTime (text : List ℕ) (p : IsoParts) : Type 0 where
  pub year : List ℕ
  pub separator : ℕ
  pub fraction : List ℕ
  pub offset : List ℕ
  pub spelled : text ≡ iso_spelling p year separator fraction offset
  pub is_year : IsYearText year p.is_before p.year
  pub is_separator : IsTrue (is_separator separator)
  pub is_fraction : IsFraction fraction p.nanosecond
  pub is_offset : IsIsoOffsetText offset p.is_west p.offset_hour p.offset_minute p.offset_second
  pub fits : FitsIsoDigits p

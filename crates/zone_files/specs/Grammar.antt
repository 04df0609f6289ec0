-- The grammar of rules, as the environment variable `TZ` has them: `CET-1CEST,M3.5.0,M10.5.0/3`. A text derives the parts of a rule.
use Rattle.std.specs.Prelude.{ℕ, ◌+◌, ◌*◌, ◌≤◌, ◌≡◌, ◌⊎◌, ℤ, pos, neg_ℤ, ◌+ℤ◌, Bool, true, false, IsTrue, List, [], ◌∷◌, ◌++◌, length}
use Rattle.std.specs.Prelude.{Option, Some, None}
use Rattle.std.specs.Char.{is_ascii_digit, is_ascii_alphabetic}
use Rattle.std.specs.List.{list_all}
use Rattle.zone_files.specs.Numbers.{value_of, is_number}
use Rattle.zone_files.specs.Pieces.{is_quoted}
use Rattle.zone_files.specs.Reading.{with_sign}
use Rattle.zone_files.specs.Rules.{DayParts, MomentParts, DaylightParts, RuleParts}
use Rattle.zone_files.specs.Rules.DayParts.{OfWeek, OfCommon, OfCounted}
use Rattle.zone_files.specs.declared.numbers.Field.{Field}
use Rattle.zone_files.specs.declared.numbers.Field.TheVariants.{Month, Week, Weekday, Common, Counted, OffsetHours, TimeHours, Sixtieth}

-- digits of a field, and their number
pub record DerivesNumber (field : Field) (text : List ℕ) (n : ℕ) : Type 0 where
  pub digits : IsTrue (list_all is_ascii_digit text)
  pub fits : IsTrue (is_number field text)
  pub value : n ≡ value_of text

-- seconds after a colon, or none
abbrev pub DerivesSeconds : List ℕ → ℕ → Type 0
DerivesSeconds [] n = n ≡ 0
DerivesSeconds (byte ∷ bytes) n = (byte ≡ 58) × DerivesNumber Sixtieth bytes n

-- minutes, and perhaps seconds, in seconds
pub record DerivesSixtieths (text : List ℕ) (n : ℕ) : Type 0 where
  pub first : List ℕ
  pub second : List ℕ
  pub minutes : ℕ
  pub seconds : ℕ
  pub spelled : text ≡ first ++ second
  pub has_minutes : DerivesNumber Sixtieth first minutes
  pub has_seconds : DerivesSeconds second seconds
  pub value : n ≡ minutes * 60 + seconds

-- minutes and perhaps seconds after a colon, or none
abbrev pub DerivesMinutes : List ℕ → ℕ → Type 0
DerivesMinutes [] n = n ≡ 0
DerivesMinutes (byte ∷ bytes) n = (byte ≡ 58) × DerivesSixtieths bytes n

-- hours, and perhaps minutes and seconds, in seconds
pub record DerivesClock (field : Field) (text : List ℕ) (n : ℕ) : Type 0 where
  pub first : List ℕ
  pub second : List ℕ
  pub hours : ℕ
  pub rest : ℕ
  pub spelled : text ≡ first ++ second
  pub has_hours : DerivesNumber field first hours
  pub has_rest : DerivesMinutes second rest
  pub value : n ≡ hours * 3_600 + rest

-- a sign, if there is one
pub data Sign : Type 0 where
  Unsigned : Sign
  Plus : Sign
  Minus : Sign

abbrev pub sign_text : Sign → List ℕ
sign_text Unsigned = []
sign_text Plus = 43 ∷ []
sign_text Minus = 45 ∷ []

abbrev pub is_minus : Sign → Bool
is_minus Unsigned = false
is_minus Plus = false
is_minus Minus = true

-- a clock with a sign
pub record DerivesSigned (field : Field) (text : List ℕ) (seconds : ℤ) : Type 0 where
  pub sign : Sign
  pub clock : List ℕ
  pub count : ℕ
  pub spelled : text ≡ sign_text sign ++ clock
  pub has_count : DerivesClock field clock count
  pub value : seconds ≡ with_sign (is_minus sign) count

-- a name: three letters or more
pub record DerivesLetters (text name : List ℕ) : Type 0 where
  pub spelled : text ≡ name
  pub letters : IsTrue (list_all is_ascii_alphabetic name)
  pub long : 3 ≤ length name

-- or three letters, digits and signs or more, between < and >
pub record DerivesQuoted (text name : List ℕ) : Type 0 where
  pub spelled : text ≡ 60 ∷ (name ++ 62 ∷ [])
  pub letters : IsTrue (list_all is_quoted name)
  pub long : 3 ≤ length name

abbrev pub DerivesName : List ℕ → List ℕ → Type 0
DerivesName text name = DerivesLetters text name ⊎ DerivesQuoted text name

-- the weekday, 0 for Sunday, of a week of a month, or of its last one for week 5
pub record DerivesWeekday (text : List ℕ) (month week weekday : ℕ) : Type 0 where
  pub first : List ℕ
  pub second : List ℕ
  pub third : List ℕ
  pub spelled : text ≡ 77 ∷ (first ++ (46 ∷ (second ++ (46 ∷ third))))
  pub has_month : DerivesNumber Month first month
  pub has_week : DerivesNumber Week second week
  pub has_weekday : DerivesNumber Weekday third weekday

-- a day from 1 to 365, which does not count 29 February
pub record DerivesCommon (text : List ℕ) (n : ℕ) : Type 0 where
  pub digits : List ℕ
  pub spelled : text ≡ 74 ∷ digits
  pub has_day : DerivesNumber Common digits n

-- a day of each year; the last kind is from 0 to 365, and counts it
abbrev pub DerivesDay : List ℕ → DayParts → Type 0
DerivesDay text (OfWeek month week weekday) = DerivesWeekday text month week weekday
DerivesDay text (OfCommon n) = DerivesCommon text n
DerivesDay text (OfCounted n) = DerivesNumber Counted text n

-- a time after a slash, or else 2:00
abbrev pub DerivesTime : List ℕ → ℤ → Type 0
DerivesTime [] seconds = seconds ≡ pos 7_200
DerivesTime (byte ∷ bytes) seconds = (byte ≡ 47) × DerivesSigned TimeHours bytes seconds

-- a moment of each year after a comma
pub record DerivesMoment (text : List ℕ) (moment : MomentParts) : Type 0 where
  pub first : List ℕ
  pub second : List ℕ
  pub spelled : text ≡ 44 ∷ (first ++ second)
  pub has_day : DerivesDay first moment.day
  pub has_time : DerivesTime second moment.time

-- an offset, which a text counts west of UTC
pub record DerivesOffset (text : List ℕ) (offset : ℤ) : Type 0 where
  pub west : ℤ
  pub has_west : DerivesSigned OffsetHours text west
  pub value : offset ≡ neg_ℤ west

-- the offset of daylight saving time, or else an hour more than that of standard time
abbrev pub DerivesDaylightOffset : ℤ → List ℕ → ℤ → Type 0
DerivesDaylightOffset standard [] offset = offset ≡ standard +ℤ pos 3_600
DerivesDaylightOffset standard (byte ∷ bytes) offset = DerivesOffset (byte ∷ bytes) offset

-- daylight saving time
pub record DerivesDaylight (standard : ℤ) (text : List ℕ) (daylight : DaylightParts) : Type 0 where
  pub first : List ℕ
  pub second : List ℕ
  pub third : List ℕ
  pub fourth : List ℕ
  pub spelled : text ≡ first ++ (second ++ (third ++ fourth))
  pub has_name : DerivesName first daylight.name
  pub has_offset : DerivesDaylightOffset standard second daylight.offset
  pub has_from : DerivesMoment third daylight.from
  pub has_until : DerivesMoment fourth daylight.until

-- daylight saving time, or nothing
abbrev pub DerivesRest : ℤ → List ℕ → Option DaylightParts → Type 0
DerivesRest standard text None = text ≡ []
DerivesRest standard text (Some daylight) = DerivesDaylight standard text daylight

-- the text derives a rule of these parts
pub record Derives (text : List ℕ) (rule : RuleParts) : Type 0 where
  pub first : List ℕ
  pub second : List ℕ
  pub third : List ℕ
  pub spelled : text ≡ first ++ (second ++ third)
  pub has_name : DerivesName first rule.name
  pub has_offset : DerivesOffset second rule.offset
  pub has_rest : DerivesRest rule.offset third rule.daylight

-- The text of a rule that is written: the shortest numbers, and nothing that may be left out.
use Rattle.std.specs.Prelude.{ℕ, ◌+◌, ◌/◌, ◌%◌, ◌≤◌, ◌==◌, nat_lt, ℤ, pos, neg_ℤ, ◌+ℤ◌, ◌≤ℤ◌, int_lt, int_le}
use Rattle.std.specs.Prelude.{◌&&◌, unsigned_abs, IsTrue, List, [], ◌∷◌, ◌++◌, length}
use Rattle.std.specs.Prelude.{Option, Some, None, if◌then◌else◌}
use Rattle.std.specs.Char.{is_ascii_alphabetic}
use Rattle.std.specs.List.{list_all}
use Rattle.zone_files.specs.Grammar.{Sign, sign_text}
use Rattle.zone_files.specs.Grammar.Sign.{Unsigned, Minus}
use Rattle.zone_files.specs.Pieces.{is_quoted}
use Rattle.zone_files.specs.Rules.{DayParts, MomentParts, DaylightParts, RuleParts}
use Rattle.zone_files.specs.Rules.DayParts.{OfWeek, OfCommon, OfCounted}

-- two digits, and as few as a number below 1,000 has
abbrev pub two_digits : ℕ → List ℕ
two_digits n = (48 + n / 10) ∷ (48 + n % 10) ∷ []

abbrev pub short_digits : ℕ → List ℕ
short_digits n =
    if nat_lt n 10 then (48 + n) ∷ [] else (if nat_lt n 100 then two_digits n else (48 + n / 100) ∷ two_digits (n % 100))

-- the seconds of a minute after a colon, unless there are none
abbrev pub seconds_text : ℕ → List ℕ
seconds_text n = if n == 0 then [] else 58 ∷ two_digits n

-- the minutes and seconds of an hour
abbrev pub minutes_text : ℕ → List ℕ
minutes_text n = if n == 0 then [] else 58 ∷ (two_digits (n / 60) ++ seconds_text (n % 60))

abbrev pub clock_text : ℕ → List ℕ
clock_text n = short_digits (n / 3_600) ++ minutes_text (n % 3_600)

-- a minus before what is below 0
abbrev pub sign_of : ℤ → Sign
sign_of z = if int_lt z (pos 0) then Minus else Unsigned

abbrev pub signed_text : ℤ → List ℕ
signed_text z = sign_text (sign_of z) ++ clock_text (unsigned_abs z)

-- letters alone, or else a name between < and >
unfoldable pub name_text : List ℕ → List ℕ
name_text name = if list_all is_ascii_alphabetic name then name else 60 ∷ (name ++ 62 ∷ [])

unfoldable pub day_text : DayParts → List ℕ
day_text (OfWeek month week weekday) = 77 ∷ (short_digits month ++ (46 ∷ (short_digits week ++ (46 ∷ short_digits weekday))))
day_text (OfCommon n) = 74 ∷ short_digits n
day_text (OfCounted n) = short_digits n

-- a time after a slash, unless it is 2:00
unfoldable pub time_text : ℤ → List ℕ
time_text z = if int_le (pos 7_200) z && int_le z (pos 7_200) then [] else 47 ∷ signed_text z

unfoldable pub moment_text : MomentParts → List ℕ
moment_text moment = 44 ∷ (day_text moment.day ++ time_text moment.time)

unfoldable pub offset_text : ℤ → List ℕ
offset_text offset = signed_text (neg_ℤ offset)

unfoldable pub daylight_offset_text : ℤ → ℤ → List ℕ
daylight_offset_text standard offset =
    if int_le (standard +ℤ pos 3_600) offset && int_le offset (standard +ℤ pos 3_600) then [] else offset_text offset

unfoldable pub daylight_text : ℤ → DaylightParts → List ℕ
daylight_text standard daylight =
    name_text daylight.name
    ++ (daylight_offset_text standard daylight.offset ++ (moment_text daylight.from ++ moment_text daylight.until))

abbrev pub rest_text : ℤ → Option DaylightParts → List ℕ
rest_text standard None = []
rest_text standard (Some daylight) = daylight_text standard daylight

unfoldable pub rule_text : RuleParts → List ℕ
rule_text rule = name_text rule.name ++ (offset_text rule.offset ++ rest_text rule.offset rule.daylight)

-- a name that a text can have: three letters, digits and signs or more
pub record IsName (name : List ℕ) : Type 0 where
  pub letters : IsTrue (list_all is_quoted name)
  pub long : 3 ≤ length name

-- an offset that a text can have: at most 24:59:59
abbrev pub IsTextOffset : ℤ → Type 0
IsTextOffset o = (neg_ℤ (pos 89_999) ≤ℤ o) × (o ≤ℤ pos 89_999)

abbrev pub IsDaylightText : Option DaylightParts → Type 0
IsDaylightText None = Unit {0}
IsDaylightText (Some daylight) = IsName daylight.name × IsTextOffset daylight.offset

-- a rule that has a text
pub record HasText (rule : RuleParts) : Type 0 where
  pub name : IsName rule.name
  pub offset : IsTextOffset rule.offset
  pub daylight : IsDaylightText rule.daylight

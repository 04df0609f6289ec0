-- Reading the text of a rule from left to right, with the first fault that is met.
use Rattle.std.specs.Prelude.{ℕ, ◌+◌, ◌-◌, ◌*◌, ◌==◌, nat_lt, ℤ, pos, neg_ℤ, ◌+ℤ◌, Bool, true, false, List, [], ◌∷◌, length}
use Rattle.std.specs.Prelude.{Some, None, Result, Ok, Err, if◌then◌else◌}
use Rattle.std.specs.Char.{is_ascii_digit, is_ascii_alphabetic}
use Rattle.std.specs.Result.{result_map_both}
use Rattle.zone_files.specs.Numbers.{value_of, is_number}
use Rattle.zone_files.specs.Pieces.{front, past, is_quoted}
use Rattle.zone_files.specs.Rules.{DayParts, MomentParts, DaylightParts, RuleParts}
use Rattle.zone_files.specs.Rules.DayParts.{OfWeek, OfCommon, OfCounted}
use Rattle.zone_files.specs.declared.faults.Stop.{Stop}
use Rattle.zone_files.specs.declared.faults.RuleFault.{RuleFault}
use Rattle.zone_files.specs.declared.faults.RuleRefusal.{RuleRefusal}
use Rattle.zone_files.specs.declared.faults.RuleFault.TheVariants as faults
use Rattle.zone_files.specs.declared.numbers.Field.{Field}
use Rattle.zone_files.specs.declared.numbers.Field.TheVariants.{Month, Week, Weekday, Common, Counted, OffsetHours, TimeHours, Sixtieth}

-- a fault at the beginning of what is left of the text
abbrev pub stop_at : RuleFault → List ℕ → Stop
stop_at fault text = record { fault = fault; left = length text }

infixl 10 ◌>>=◌
abbrev pub ◌>>=◌ : {A B E : Type 0} → Result A E → (A → Result B E) → Result B E
(Ok x) >>= f = f x
(Err stop) >>= f = Err stop

-- no digit stands where a number has to, or the number does not fit
abbrev pub no_number : List ℕ → List ℕ → Stop
no_number digits text = if length digits == 0 then stop_at faults.Digit text else stop_at faults.Range text

-- the number of a field in front, and what follows it
unfoldable pub number_at : Field → List ℕ → Result (ℕ × List ℕ) Stop
number_at field text =
    if is_number field (front is_ascii_digit text) then Ok (value_of (front is_ascii_digit text), past is_ascii_digit text)
    else Err (no_number (front is_ascii_digit text) text)

-- what follows a byte that has to stand in front
abbrev pub after_byte : ℕ → List ℕ → Result (List ℕ) Stop
after_byte wanted [] = Err (stop_at faults.Byte [])
after_byte wanted (byte ∷ bytes) = if byte == wanted then Ok bytes else Err (stop_at faults.Byte (byte ∷ bytes))

-- the seconds after a colon, or none
abbrev pub seconds_at : List ℕ → Result (ℕ × List ℕ) Stop
seconds_at [] = Ok (0, [])
seconds_at (byte ∷ bytes) = if byte == 58 then number_at Sixtieth bytes else Ok (0, byte ∷ bytes)

-- minutes, and perhaps seconds, in seconds
unfoldable pub sixtieths_at : List ℕ → Result (ℕ × List ℕ) Stop
sixtieths_at text = do
  minutes ← number_at Sixtieth text
  seconds ← seconds_at minutes.1
  Ok (minutes.0 * 60 + seconds.0, seconds.1)

-- the minutes and seconds after a colon, or none
abbrev pub minutes_at : List ℕ → Result (ℕ × List ℕ) Stop
minutes_at [] = Ok (0, [])
minutes_at (byte ∷ bytes) = if byte == 58 then sixtieths_at bytes else Ok (0, byte ∷ bytes)

-- hours, and perhaps minutes and seconds, in seconds
unfoldable pub clock_at : Field → List ℕ → Result (ℕ × List ℕ) Stop
clock_at field text = do
  hours ← number_at field text
  minutes ← minutes_at hours.1
  Ok (hours.0 * 3_600 + minutes.0, minutes.1)

-- whether a minus stands in front, and what follows the sign
abbrev pub sign_at : List ℕ → Bool × List ℕ
sign_at [] = (false, [])
sign_at (byte ∷ bytes) = if byte == 45 then (true, bytes) else (if byte == 43 then (false, bytes) else (false, byte ∷ bytes))

-- a number with a sign
abbrev pub with_sign : Bool → ℕ → ℤ
with_sign negative n = if negative then neg_ℤ (pos n) else pos n

-- a clock with a sign
unfoldable pub signed_at : Field → List ℕ → Result (ℤ × List ℕ) Stop
signed_at field text = do
  clock ← clock_at field (sign_at text).1
  Ok (with_sign (sign_at text).0 clock.0, clock.1)

-- a name of letters
unfoldable pub letters_at : List ℕ → Result (List ℕ × List ℕ) Stop
letters_at text =
    if nat_lt (length (front is_ascii_alphabetic text)) 3 then Err (stop_at faults.Name text)
    else Ok (front is_ascii_alphabetic text, past is_ascii_alphabetic text)

-- a name before >
unfoldable pub quoted_at : List ℕ → Result (List ℕ × List ℕ) Stop
quoted_at text =
    if nat_lt (length (front is_quoted text)) 3 then Err (stop_at faults.Name text)
    else after_byte 62 (past is_quoted text) >>= (λ rest. Ok (front is_quoted text, rest))

-- a name: letters, or letters, digits and signs between < and >
abbrev pub name_at : List ℕ → Result (List ℕ × List ℕ) Stop
name_at [] = letters_at []
name_at (byte ∷ bytes) = if byte == 60 then quoted_at bytes else letters_at (byte ∷ bytes)

-- a month, a week and a weekday
unfoldable pub weekday_at : List ℕ → Result (DayParts × List ℕ) Stop
weekday_at text = do
  month ← number_at Month text
  point ← after_byte 46 month.1
  week ← number_at Week point
  next ← after_byte 46 week.1
  weekday ← number_at Weekday next
  Ok (OfWeek month.0 week.0 weekday.0, weekday.1)

-- a day counted without 29 February, or with it
unfoldable pub common_at : List ℕ → Result (DayParts × List ℕ) Stop
common_at text = number_at Common text >>= (λ n. Ok (OfCommon n.0, n.1))

unfoldable pub counted_at : List ℕ → Result (DayParts × List ℕ) Stop
counted_at text = number_at Counted text >>= (λ n. Ok (OfCounted n.0, n.1))

-- a day of each year
abbrev pub day_at : List ℕ → Result (DayParts × List ℕ) Stop
day_at [] = counted_at []
day_at (byte ∷ bytes) = if byte == 77 then weekday_at bytes else (if byte == 74 then common_at bytes else counted_at (byte ∷ bytes))

-- a time of day after a slash, or else 2:00
abbrev pub time_at : List ℕ → Result (ℤ × List ℕ) Stop
time_at [] = Ok (pos 7_200, [])
time_at (byte ∷ bytes) = if byte == 47 then signed_at TimeHours bytes else Ok (pos 7_200, byte ∷ bytes)

-- a moment of each year after a comma
unfoldable pub moment_at : List ℕ → Result (MomentParts × List ℕ) Stop
moment_at text = do
  begun ← after_byte 44 text
  day ← day_at begun
  time ← time_at day.1
  Ok (record { day = day.0; time = time.0 }, time.1)

-- an offset, which the text counts west of UTC
unfoldable pub offset_at : List ℕ → Result (ℤ × List ℕ) Stop
offset_at text = signed_at OffsetHours text >>= (λ west. Ok (neg_ℤ west.0, west.1))

-- the offset of daylight saving time, or else an hour more than that of standard time
abbrev pub daylight_offset_at : ℤ → List ℕ → Result (ℤ × List ℕ) Stop
daylight_offset_at standard [] = offset_at []
daylight_offset_at standard (byte ∷ bytes) = if byte == 44 then Ok (standard +ℤ pos 3_600, byte ∷ bytes) else offset_at (byte ∷ bytes)

-- daylight saving time
unfoldable pub daylight_at : ℤ → List ℕ → Result (DaylightParts × List ℕ) Stop
daylight_at standard text = do
  name ← name_at text
  offset ← daylight_offset_at standard name.1
  from ← moment_at offset.1
  until ← moment_at from.1
  Ok (record { name = name.0; offset = offset.0; from = from.0; until = until.0 }, until.1)

-- daylight saving time, if the text goes on, and nothing after it
unfoldable pub rule_with_daylight : List ℕ → ℤ → List ℕ → Result RuleParts Stop
rule_with_daylight name offset text =
    daylight_at offset text >>= (λ daylight.
    if length daylight.1 == 0 then Ok (record { name = name; offset = offset; daylight = Some daylight.0 }) else Err (stop_at faults.Byte daylight.1))

abbrev pub rule_after : List ℕ → ℤ → List ℕ → Result RuleParts Stop
rule_after name offset [] = Ok (record { name = name; offset = offset; daylight = None })
rule_after name offset (byte ∷ bytes) = rule_with_daylight name offset (byte ∷ bytes)

-- the rule of a text, or its first fault
unfoldable pub rule_in : List ℕ → Result RuleParts Stop
rule_in text = do
  name ← name_at text
  offset ← offset_at name.1
  rule_after name.0 offset.0 offset.1

-- a fault, at the index of its byte
abbrev pub refusal_of : List ℕ → Stop → RuleRefusal
refusal_of text stop = record { fault = stop.fault; place = length text - stop.left }

unfoldable pub rule_of : List ℕ → Result RuleParts RuleRefusal
rule_of text = result_map_both (λ rule. rule) (refusal_of text) (rule_in text)

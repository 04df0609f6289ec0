-- Reading the text of a duration from left to right, with the first fault that is met.
use Rattle.std.specs.Prelude.{ℕ, zero, suc, ◌+◌, ◌-◌, ◌*◌, ◌==◌, nat_lt, ℤ, pos, neg_ℤ, ◌+ℤ◌, Bool, true, false, List, [], ◌∷◌, length}
use Rattle.std.specs.Prelude.{Option, Some, None, Result, Ok, Err, if◌then◌else◌}
use Rattle.std.specs.Char.{is_ascii_digit}
use Rattle.std.specs.Result.{result_map_both}
use Rattle.calendar_values.specs.Clock.{nanos_per_second, nanos_per_minute, nanos_per_hour, nanos_per_day}
use Rattle.calendar_values.specs.Durations.{least_duration, greatest_duration}
use Rattle.calendar_values.specs.Range.{is_outside}
use Rattle.duration_texts.specs.Numbers.{Number, value_of, part_of, most_nanoseconds}
use Rattle.duration_texts.specs.Pieces.{front, past, is_blank, is_letter}
use Rattle.duration_texts.specs.Units.{unit_of, is_calendar_word}
use Rattle.duration_texts.specs.declared.faults.Stop.{Stop}
use Rattle.duration_texts.specs.declared.faults.DurationFault.{DurationFault}
use Rattle.duration_texts.specs.declared.faults.DurationRefusal.{DurationRefusal}
use Rattle.duration_texts.specs.declared.faults.DurationFault.TheVariants.{Digit, Unit, Calendar, Alone, Fraction, Range}

-- a fault at the beginning of what is left of the text
abbrev pub stop_at : DurationFault → List ℕ → Stop
stop_at fault text = record { fault = fault; left = length text }

-- no digit where a number has to stand
abbrev pub no_digit : List ℕ → Stop
no_digit text = stop_at Digit text

-- the number of these digits with what follows, if there is a digit before the point
abbrev pub with_fraction : List ℕ → List ℕ → Result (Number × List ℕ) Stop
with_fraction whole digits =
    if length (front is_ascii_digit digits) == 0 then Err (no_digit digits)
    else Ok (record { whole = whole; fraction = front is_ascii_digit digits }, past is_ascii_digit digits)

-- a point and digits after the whole digits, or none
abbrev pub after_whole : List ℕ → List ℕ → Result (Number × List ℕ) Stop
after_whole whole [] = Ok (record { whole = whole; fraction = [] }, [])
after_whole whole (byte ∷ bytes) =
    if byte == 46 then with_fraction whole bytes else Ok (record { whole = whole; fraction = [] }, byte ∷ bytes)

-- the number in front, and what follows it
unfoldable pub number_at : List ℕ → Result (Number × List ℕ) Stop
number_at text =
    if length (front is_ascii_digit text) == 0 then Err (no_digit text) else after_whole (front is_ascii_digit text) (past is_ascii_digit text)

-- the nanoseconds, if they are in range
abbrev pub in_range : ℕ → Result ℕ DurationFault
in_range n = if nat_lt most_nanoseconds n then Err Range else Ok n

-- the nanoseconds with those after the point, if they are whole
abbrev pub with_part : ℕ → Option ℕ → Result ℕ DurationFault
with_part n (Some part) = in_range (n + part)
with_part n None = Err Fraction

-- the nanoseconds of a number of a unit
abbrev pub nanoseconds_of : ℕ → Number → Result ℕ DurationFault
nanoseconds_of unit number = with_part (value_of number.whole * unit) (part_of unit number.fraction)

infixl 10 ◌>>=◌
abbrev pub ◌>>=◌ : {A B : Type 0} → Result A Stop → (A → Result B Stop) → Result B Stop
(Ok x) >>= f = f x
(Err stop) >>= f = Err stop

-- whether a sign in front makes the term negative, and what follows it; without one the term is as those before it
abbrev pub sign_at : Bool → List ℕ → Bool × List ℕ
sign_at negative [] = (negative, [])
sign_at negative (byte ∷ bytes) = if byte == 45 then (true, bytes) else (if byte == 43 then (false, bytes) else (negative, byte ∷ bytes))

-- the unit of a word, or the fault of a word that is none
abbrev pub unit_found : Option ℕ → Bool → List ℕ → Result (ℕ × List ℕ) Stop
unit_found (Some unit) is_calendar text = Ok (unit, past is_letter text)
unit_found None is_calendar text = if is_calendar then Err (stop_at Calendar text) else Err (stop_at Unit text)

-- the unit of the word in front, and what follows it
unfoldable pub named_unit : List ℕ → Result (ℕ × List ℕ) Stop
named_unit text = unit_found (unit_of (front is_letter text)) (is_calendar_word (front is_letter text)) text

-- the unit after a number and perhaps blanks, and what follows it
unfoldable pub unit_at : List ℕ → Result (ℕ × List ℕ) Stop
unit_at text =
    if length (front is_letter (past is_blank text)) == 0 then Err (stop_at Alone text) else named_unit (past is_blank text)

-- a number with a sign
abbrev pub with_sign : Bool → ℕ → ℤ
with_sign negative n = if negative then neg_ℤ (pos n) else pos n

-- a sum, if it is a duration
abbrev pub duration_sum : List ℕ → ℤ → Result ℤ Stop
duration_sum text sum = if is_outside least_duration greatest_duration sum then Err (stop_at Range text) else Ok sum

-- the sum with a number of a unit; a fault is that of the term, which begins at the text
unfoldable pub sum_with : Bool → ℤ → ℕ → Number → List ℕ → Result ℤ Stop
sum_with negative sum unit number text =
    result_map_both (λ n. n) (λ fault. stop_at fault text) (nanoseconds_of unit number) >>= (λ n. duration_sum text (sum +ℤ with_sign negative n))

-- whether the term in front is negative, the sum with it, and what follows it
unfoldable pub term_at : Bool → ℤ → List ℕ → Result (Bool × ℤ × List ℕ) Stop
term_at negative sum text = do
  number ← number_at (sign_at negative text).1
  unit ← unit_at number.1
  more ← sum_with (sign_at negative text).0 sum unit.0 number.0 text
  Ok ((sign_at negative text).0, more, unit.1)

-- a sign goes on to the next term, unless a blank is between
abbrev pub goes_on : Bool → List ℕ → Bool
goes_on negative [] = negative
goes_on negative (byte ∷ bytes) = if is_blank byte then false else negative

-- the sum with the terms of the text, which are as many at most
unfoldable pub terms_from : ℕ → Bool → ℤ → List ℕ → Result ℤ Stop
terms_from zero negative sum text = Err (no_digit text)
terms_from (suc most) negative sum text =
    term_at negative sum text >>= (λ term.
    if length (past is_blank term.2) == 0 then Ok term.1 else terms_from most (goes_on term.0 term.2) term.1 (past is_blank term.2))

-- the sum with a number before a letter, and what follows the letter; before another letter the number is left
abbrev pub part_before : ℕ → ℕ → Bool → ℤ → List ℕ → Number → List ℕ → Result (ℤ × List ℕ) Stop
part_before letter unit negative sum text number [] = Ok (sum, text)
part_before letter unit negative sum text number (byte ∷ bytes) =
    if byte == letter then sum_with negative sum unit number text >>= (λ more. Ok (more, bytes)) else Ok (sum, text)

-- the sum with the part of a letter, if the text begins with one, and what follows it
unfoldable pub part_at : ℕ → ℕ → Bool → ℤ → List ℕ → Result (ℤ × List ℕ) Stop
part_at letter unit negative sum text =
    if length (front is_ascii_digit text) == 0 then Ok (sum, text)
    else number_at text >>= (λ number. part_before letter unit negative sum text number.0 number.1)

-- the fault of a part that no letter of the form follows
abbrev pub left_over : ℕ → List ℕ → Stop
left_over byte text = if is_ascii_digit byte then stop_at Unit text else stop_at Digit text

-- the sum of parts of a text that begins so, if nothing is left, and at least one part was read
abbrev pub sum_at_end : ℤ → List ℕ → List ℕ → Result ℤ Stop
sum_at_end sum [] [] = Err (no_digit [])
sum_at_end sum [] (byte ∷ begun) = Ok sum
sum_at_end sum (byte ∷ rest) begun = Err (left_over byte (byte ∷ rest))

-- the sum with the hours, minutes and seconds after the T
unfoldable pub time_from : Bool → ℤ → List ℕ → Result ℤ Stop
time_from negative sum text = do
  hours ← part_at 72 nanos_per_hour negative sum text
  minutes ← part_at 77 nanos_per_minute negative hours.0 hours.1
  seconds ← part_at 83 nanos_per_second negative minutes.0 minutes.1
  sum_at_end seconds.0 (past is_blank seconds.1) (past is_blank text)

-- the sum with a time of day, if there is a T; else it is the days alone
abbrev pub after_days : Bool → ℤ → List ℕ → List ℕ → Result ℤ Stop
after_days negative sum [] begun = sum_at_end sum [] begun
after_days negative sum (byte ∷ bytes) begun =
    if byte == 84 then time_from negative sum bytes else sum_at_end sum (past is_blank (byte ∷ bytes)) begun

-- the sum of the parts after the P
unfoldable pub iso_from : Bool → List ℕ → Result ℤ Stop
iso_from negative text = do
  days ← part_at 68 nanos_per_day negative (pos 0) text
  after_days negative days.0 days.1 (past is_blank text)

-- a number alone is of seconds, and others are terms
unfoldable pub number_or_terms : Bool → List ℕ → List ℕ → Result ℤ Stop
number_or_terms negative after text = do
  number ← number_at after
  if length (past is_blank number.1) == 0 then sum_with negative (pos 0) nanos_per_second number.0 text
      else terms_from (length text) false (pos 0) text

-- the reading of a text that begins with a sign and then so
abbrev pub duration_after : Bool → List ℕ → List ℕ → Result ℤ Stop
duration_after negative [] text = number_or_terms negative [] text
duration_after negative (byte ∷ bytes) text = if byte == 80 then iso_from negative bytes else number_or_terms negative (byte ∷ bytes) text

-- the nanoseconds of a text, or its first fault
unfoldable pub nanoseconds_in : List ℕ → Result ℤ Stop
nanoseconds_in text =
    duration_after (sign_at false (past is_blank text)).0 (sign_at false (past is_blank text)).1 (past is_blank text)

-- a fault, at the index of its byte
abbrev pub refusal_of : List ℕ → Stop → DurationRefusal
refusal_of text stop = record { fault = stop.fault; place = length text - stop.left }

-- the duration of a text, or its first fault
unfoldable pub reading_of : List ℕ → Result ℤ DurationRefusal
reading_of text = result_map_both (λ n. n) (refusal_of text) (nanoseconds_in text)

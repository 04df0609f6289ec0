-- The grammar of durations: a text derives a number of nanoseconds. It has three forms: terms such as `1 day -0.5 seconds` or
-- `1h30m`, a number of seconds alone, and the form of ISO 8601.
use Rattle.std.specs.Prelude.{ℕ, zero, suc, ◌+◌, ◌<◌, ◌≡◌, ◌⊎◌, ℤ, pos, ◌+ℤ◌, Bool, true, false, IsTrue, List, [], ◌∷◌, ◌++◌, length}
use Rattle.std.specs.Prelude.{Option, Some, None}
use Rattle.std.specs.List.{list_all}
use Rattle.calendar_values.specs.Clock.{nanos_per_second, nanos_per_minute, nanos_per_hour, nanos_per_day}
use Rattle.calendar_values.specs.Durations.{IsDuration}
use Rattle.duration_texts.specs.Numbers.{Number, IsNumber, HasNanoseconds, number_text}
use Rattle.duration_texts.specs.Pieces.{blanks, is_letter}
use Rattle.duration_texts.specs.Reading.{with_sign}
use Rattle.duration_texts.specs.Units.{unit_of}

-- the sign of a term, if it has one
pub data Sign : Type 0 where
  Unsigned : Sign
  Plus : Sign
  Minus : Sign

abbrev pub sign_text : Sign → List ℕ
sign_text Unsigned = []
sign_text Plus = 43 ∷ []
sign_text Minus = 45 ∷ []

-- whether a term with this sign is negative: without one it is as the term that it follows
abbrev pub is_negative : Bool → Sign → Bool
is_negative before Unsigned = before
is_negative before Plus = false
is_negative before Minus = true

-- a term: a sign, a number, blanks, the name of a unit, and the blanks after it
pub record Term : Type 0 where
  pub sign : Sign
  pub number : Number
  pub between : ℕ
  pub word : List ℕ
  pub after : ℕ

-- the text of a term
abbrev pub term_text : Term → List ℕ
term_text term = sign_text term.sign ++ (number_text term.number ++ (blanks term.between ++ (term.word ++ blanks term.after)))

abbrev pub terms_text : List Term → List ℕ
terms_text [] = []
terms_text (term ∷ terms) = term_text term ++ terms_text terms

-- a sign goes on to the next term, unless a blank is between
abbrev pub after_blanks : ℕ → Bool → Bool
after_blanks zero negative = negative
after_blanks (suc n) negative = false

-- the term has this number of nanoseconds
pub record IsTerm (term : Term) (n : ℕ) : Type 0 where
  pub digits : IsNumber term.number
  pub letters : IsTrue (list_all is_letter term.word)
  pub unit : ℕ
  pub named : unit_of term.word ≡ Some unit
  pub value : HasNanoseconds unit term.number n

-- the terms make this total of the sum before them, which is a duration after each term
abbrev pub AreTerms : Bool → ℤ → List Term → ℤ → Type 0
AreTerms negative sum [] total = sum ≡ total
AreTerms negative sum (term ∷ terms) total =
    (n : ℕ) × IsTerm term n × IsDuration (sum +ℤ with_sign (is_negative negative term.sign) n)
    × AreTerms (after_blanks term.after (is_negative negative term.sign)) (sum +ℤ with_sign (is_negative negative term.sign) n) terms total

-- terms, at least one of them
pub record DerivesTerms (text : List ℕ) (total : ℤ) : Type 0 where
  pub before : ℕ
  pub first : Term
  pub others : List Term
  pub spelled : text ≡ blanks before ++ terms_text (first ∷ others)
  pub value : AreTerms false (pos 0) (first ∷ others) total

-- a number of seconds alone
pub record DerivesSeconds (text : List ℕ) (total : ℤ) : Type 0 where
  pub before : ℕ
  pub sign : Sign
  pub number : Number
  pub after : ℕ
  pub nanoseconds : ℕ
  pub spelled : text ≡ blanks before ++ (sign_text sign ++ (number_text number ++ blanks after))
  pub digits : IsNumber number
  pub value : HasNanoseconds nanos_per_second number nanoseconds
  pub signed : total ≡ with_sign (is_negative false sign) nanoseconds

-- a part of the form of ISO 8601: a number before a letter, or nothing
abbrev pub part_text : ℕ → Option Number → List ℕ
part_text letter None = []
part_text letter (Some number) = number_text number ++ letter ∷ []

-- the part has this number of nanoseconds
abbrev pub HasPart : ℕ → Option Number → ℕ → Type 0
HasPart unit None n = n ≡ 0
HasPart unit (Some number) n = IsNumber number × HasNanoseconds unit number n

-- the hours, the minutes and the seconds
abbrev pub time_text : Option Number → Option Number → Option Number → List ℕ
time_text hours minutes seconds = part_text 72 hours ++ (part_text 77 minutes ++ part_text 83 seconds)

-- what follows the P of a form without a time of day
pub record AreDays (text : List ℕ) (n : ℕ) : Type 0 where
  pub days : Number
  pub after : ℕ
  pub spelled : text ≡ part_text 68 (Some days) ++ blanks after
  pub value : HasPart nanos_per_day (Some days) n

-- what follows the P of a form with one, which has at least one part
pub record AreDaysAndTime (text : List ℕ) (n : ℕ) : Type 0 where
  pub days : Option Number
  pub hours : Option Number
  pub minutes : Option Number
  pub seconds : Option Number
  pub after : ℕ
  pub of_days : ℕ
  pub of_hours : ℕ
  pub of_minutes : ℕ
  pub of_seconds : ℕ
  pub spelled : text ≡ part_text 68 days ++ (84 ∷ (time_text hours minutes seconds ++ blanks after))
  pub some : 0 < length (time_text hours minutes seconds)
  pub has_days : HasPart nanos_per_day days of_days
  pub has_hours : HasPart nanos_per_hour hours of_hours
  pub has_minutes : HasPart nanos_per_minute minutes of_minutes
  pub has_seconds : HasPart nanos_per_second seconds of_seconds
  pub value : n ≡ of_days + of_hours + of_minutes + of_seconds

-- the form of ISO 8601, of one sign
pub record DerivesIso (text : List ℕ) (total : ℤ) : Type 0 where
  pub before : ℕ
  pub sign : Sign
  pub parts : List ℕ
  pub nanoseconds : ℕ
  pub spelled : text ≡ blanks before ++ (sign_text sign ++ (80 ∷ parts))
  pub value : AreDays parts nanoseconds ⊎ AreDaysAndTime parts nanoseconds
  pub signed : total ≡ with_sign (is_negative false sign) nanoseconds

-- the text derives a duration of this number of nanoseconds
abbrev pub Derives : List ℕ → ℤ → Type 0
Derives text total = IsDuration total × (DerivesTerms text total ⊎ (DerivesSeconds text total ⊎ DerivesIso text total))

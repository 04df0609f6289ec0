-- Texts of RFC 2822: a date-time of mail, with white space between its parts and comments at its end.
use Rattle.std.specs.Prelude.{ℕ, ◌+◌, ◌-◌, ◌*◌, ◌==◌, ◌&&◌, ◌||◌, not, Bool, true, false, List, [], ◌∷◌, codes, length, nat_lt, if◌then◌else◌}
use Rattle.std.specs.Prelude.{Option, Some, None, Result, Ok, Err, is_some}
use Rattle.std.specs.Char.{is_ascii_whitespace, is_ascii_alphabetic, to_ascii_lowercase}
use Rattle.rfc3339.specs.Reading.{◌>>=◌, digit_at, two_digits_at, mark_at}
use Rattle.format_descriptions.specs.Read.{part_at, part_given, no_parts}
use Rattle.format_descriptions.specs.Reading.{word_at, named, year_since}
use Rattle.format_descriptions.specs.declared.component.Component.{Component}
use Rattle.format_descriptions.specs.declared.component.Component.TheVariants.{WeekdayName, Day, MonthName, YearSince, Hour, Minute, Second}
use Rattle.format_descriptions.specs.declared.component.Component.TheVariants.{OffsetHour, OffsetMinute, OffsetWord}
use Rattle.format_descriptions.specs.declared.modifiers.NameForm.TheVariants.{Short}
use Rattle.format_descriptions.specs.declared.modifiers.Padding.TheVariants.{Zero, Bare}
use Rattle.format_descriptions.specs.declared.modifiers.ReadCase.TheVariants.{Any}
use Rattle.format_descriptions.specs.declared.modifiers.Sign.TheVariants.{Mandatory}
use Rattle.format_descriptions.specs.declared.modifiers.UtcWord.TheVariants.{Gmt}
use Rattle.format_descriptions.specs.declared.parts.Parts.{Parts}
use Rattle.format_descriptions.specs.declared.rfc2822.MailRefusal.{MailRefusal}
use Rattle.format_descriptions.specs.declared.value_refusal.Field.{Field}
use Rattle.format_descriptions.specs.declared.value_refusal.Field.TheVariants as field

-- the part that cannot be read, or none where white space or a mark is missing, and the number of bytes left
abbrev pub Fault : Type 0
Fault = Option Field × ℕ

-- the parts and the rest of the text, or the fault
abbrev pub MailFront : Type 0
MailFront = Result (Parts × List ℕ) Fault

-- the result of the next step, or the fault
abbrev pub then_read : {A B : Type 0} → Result A Fault → (A → Result B Fault) → Result B Fault
then_read (Ok read) next = next read
then_read (Err fault) next = Err fault

-- what was read, or a fault before this text
abbrev pub or_fault : {A : Type 0} → Option Field → List ℕ → Option A → Result A Fault
or_fault part text (Some read) = Ok read
or_fault part text None = Err (part, length text)

-- a component, with the parts so far
abbrev pub part_read : Component → Field → List ℕ → Parts → MailFront
part_read component part text p = or_fault (Some part) text (part_at component text p)

-- ---- white space, marks and comments

-- the rest after white space, of which there may be none
unfoldable pub past_blanks : List ℕ → List ℕ
past_blanks [] = []
past_blanks (first ∷ text) = if is_ascii_whitespace first then past_blanks text else first ∷ text

-- the rest after white space
abbrev pub blanks_at : List ℕ → Result (List ℕ) Fault
blanks_at text = if length (past_blanks text) == length text then Err (None, length text) else Ok (past_blanks text)

-- the rest after a mark and the white space on both sides of it
abbrev pub mark_between : ℕ → List ℕ → Option (List ℕ)
mark_between mark text = mark_at mark (past_blanks text) >>= λ rest. Some (past_blanks rest)

-- the same after parts
abbrev pub then_blanks : MailFront → MailFront
then_blanks front = then_read front (λ read. then_read (blanks_at read.1) (λ rest. Ok (read.0, rest)))

abbrev pub then_mark : ℕ → MailFront → MailFront
then_mark mark front =
    then_read front (λ read. then_read (or_fault None read.1 (mark_between mark read.1)) (λ rest. Ok (read.0, rest)))

-- a text is white space and comments alone, where so many brackets are open; a backslash quotes the next byte of a comment
unfoldable pub are_comments : Bool → ℕ → List ℕ → Bool
are_comments quoted depth [] = not quoted && depth == 0
are_comments true depth (first ∷ text) = are_comments false depth text
are_comments false depth (first ∷ text) =
    if first == 40 then are_comments false (depth + 1) text
    else (if depth == 0 then is_ascii_whitespace first && are_comments false depth text
    else are_comments (first == 92) (if first == 41 then depth - 1 else depth) text)

-- the rest after comments, if nothing else follows
abbrev pub past_comments : List ℕ → List ℕ
past_comments text = if are_comments false 0 text then [] else text

-- a text begins with a letter
abbrev pub starts_letter : List ℕ → Bool
starts_letter [] = false
starts_letter (first ∷ text) = is_ascii_alphabetic first

-- ---- years and zones

-- the year of four digits, or of two: 50 to 99 are of the century before 2000
abbrev pub mail_year : ℕ × List ℕ → Option (ℕ × List ℕ) → ℕ × List ℕ
mail_year first None = (year_since 1_950 first.0, first.1)
mail_year first (Some last) = (first.0 * 100 + last.0, last.1)

-- a year from 1900 on that no digit follows
abbrev pub year_if_whole : ℕ × List ℕ → Option (ℕ × List ℕ)
year_if_whole year = if nat_lt year.0 1_900 || is_some (digit_at year.1) then None else Some year

-- a year from 1900 on, without a sign
unfoldable pub mail_year_at : List ℕ → Option (ℕ × List ℕ)
mail_year_at text = two_digits_at text >>= λ first. year_if_whole (mail_year first (two_digits_at first.1))

-- a year with the parts so far
abbrev pub year_given : Parts → ℕ × List ℕ → Option (Parts × List ℕ)
year_given p read = part_given (YearSince 1_950) p ((false, read.0), read.1)

abbrev pub year_read : List ℕ → Parts → MailFront
year_read text p = or_fault (Some field.Year) text (mail_year_at text >>= λ read. year_given p read)

-- the names of zones, and how many hours they are west of Greenwich
abbrev pub zones : List (List ℕ × ℕ)
zones =
    (codes "GMT", 0) ∷ (codes "UTC", 0) ∷ (codes "UT", 0) ∷ (codes "EST", 5) ∷ (codes "EDT", 4) ∷ (codes "CST", 6) ∷ (codes "CDT", 5) ∷
    (codes "MST", 7) ∷ (codes "MDT", 6) ∷ (codes "PST", 8) ∷ (codes "PDT", 7) ∷ []

-- the rest that does not begin with a letter
abbrev pub if_no_letter : List ℕ → Option (List ℕ)
if_no_letter rest = if starts_letter rest then None else Some rest

-- the rest after a word in any case that no letter follows
abbrev pub whole_word_at : List ℕ → List ℕ → Option (List ℕ)
whole_word_at word text = word_at Any word text >>= λ rest. if_no_letter rest

-- the hours of the first of these zones whose name is at the front
unfoldable pub named_zone_at : List (List ℕ × ℕ) → List ℕ → Option (ℕ × List ℕ)
named_zone_at [] text = None
named_zone_at (zone ∷ others) text = named zone.1 (named_zone_at others text) (whole_word_at zone.0 text)

-- a letter but J that no letter follows: a zone of the military, which RFC 2822 reads as UTC
abbrev pub letter_zone_at : List ℕ → Option (ℕ × List ℕ)
letter_zone_at [] = None
letter_zone_at (first ∷ text) =
    if is_ascii_alphabetic first && (not (to_ascii_lowercase first == 106) && not (starts_letter text)) then Some (0, text) else None

-- the hours of a name, or else of a letter
abbrev pub or_letter : List ℕ → Option (ℕ × List ℕ) → Option (ℕ × List ℕ)
or_letter text (Some read) = Some read
or_letter text None = letter_zone_at text

-- the seconds of a zone by its name, with true for one that is west of Greenwich
unfoldable pub mail_zone_at : List ℕ → Option ((Bool × ℕ) × List ℕ)
mail_zone_at text = or_letter text (named_zone_at zones text) >>= λ read. Some ((nat_lt 0 read.0, read.0 * 3_600), read.1)

-- an offset by the name of its zone, or by its hours and minutes
abbrev pub offset_read : List ℕ → Parts → Option ((Bool × ℕ) × List ℕ) → MailFront
offset_read text p (Some read) = or_fault (Some field.OffsetHour) text (part_given (OffsetWord Gmt Any) p read)
offset_read text p None =
    then_read (part_read (OffsetHour Mandatory Zero) field.OffsetHour text p) (λ read. part_read (OffsetMinute Zero) field.OffsetMinute read.1 read.0)

-- ---- a date-time

-- the day of the week, if the text begins with a letter
abbrev pub weekday_read : List ℕ → Parts → MailFront
weekday_read text p = if starts_letter text then then_mark 44 (part_read (WeekdayName Short Any) field.Weekday text p) else Ok (p, text)

-- the day, the month and the year
abbrev pub date_read : List ℕ → Parts → MailFront
date_read text p =
    then_read (then_blanks (part_read (Day Bare) field.Day text p)) (λ day.
    then_read (then_blanks (part_read (MonthName Short Any) field.Month day.1 day.0)) (λ month.
    then_blanks (year_read month.1 month.0)))

-- the second, if there is one
abbrev pub second_read : Parts × List ℕ → Option (List ℕ) → MailFront
second_read minute None = Ok minute
second_read minute (Some rest) = part_read (Second Zero) field.Second rest minute.0

-- the hour, the minute and perhaps the second
abbrev pub clock_read : List ℕ → Parts → MailFront
clock_read text p =
    then_read (then_mark 58 (part_read (Hour Zero) field.Hour text p)) (λ hour.
    then_read (part_read (Minute Zero) field.Minute hour.1 hour.0) (λ minute. second_read minute (mark_between 58 minute.1)))

-- a date-time at the front of a text, and the comments after it
unfoldable pub mail_front : List ℕ → Parts → MailFront
mail_front text p =
    then_read (weekday_read (past_blanks text) p) (λ weekday.
    then_read (date_read weekday.1 weekday.0) (λ date.
    then_read (then_blanks (clock_read date.1 date.0)) (λ clock.
    then_read (offset_read clock.1 clock.0 (mail_zone_at clock.1)) (λ offset. Ok (offset.0, past_comments offset.1)))))

-- the parts of a text that ends after them, or the fault
abbrev pub if_at_end : Parts × List ℕ → Result Parts Fault
if_at_end read = if length read.1 == 0 then Ok read.0 else Err (None, length read.1)

-- the parts of a text of RFC 2822, or the fault
abbrev pub mail_parts : List ℕ → Result Parts Fault
mail_parts text = then_read (mail_front text no_parts) (λ read. if_at_end read)

-- a fault, by its place in the text
abbrev pub mail_refusal : List ℕ → Fault → MailRefusal
mail_refusal text fault = record { place = length text - fault.1; part = fault.0 }

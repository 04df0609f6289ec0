-- What is written of mail is read back.
use Rattle.std.proofs.Common.{◌≡◌, refl, ℕ, suc, ◌+◌, ◌*◌, ◌/◌, ◌%◌, ◌<◌, ◌≤◌, ◌==◌, true, false, List, [], ◌∷◌, ◌++◌, length, take, arith, nat_lt, inl, inr}
use Rattle.std.proofs.Common.{Some, None, Ok, ℤ, pos}
use Rattle.std.specs.Prelude.{IsTrue, int_lt, unsigned_abs, not}
use Rattle.std.specs.Char.{is_ascii_whitespace}
use Rattle.std.proofs.lemmas.Bool.{cases_Bool, and_parts}
use Rattle.std.proofs.lemmas.Bool.Decides.{nat_tests}
use Rattle.calendar_values.specs.Calendar.{year_of, month_of, day_of_month_of, is_leap_year}
use Rattle.calendar_values.specs.CalendarDateLemmas.{IsCalendarDate-of, days_in_month_bounds}
use Rattle.calendar_values.specs.Clock.{hour_of, minute_of, second_of}
use Rattle.calendar_values.specs.Digits.{last_digits}
use Rattle.calendar_values.specs.Month.{month_name}
use Rattle.calendar_values.specs.SignedArith.{signed_arith}
use Rattle.calendar_values.specs.Texts.{year_digits}
use Rattle.calendar_values.specs.Weekday.{weekday_name}
use Rattle.calendar_values.specs.Weeks.{weekday_of}
use Rattle.calendar_values.specs.declared.month.Month.{Month}
use Rattle.calendar_values.specs.declared.month.Month.TheVariants.{January, February, March, April, May, June, July, August, September}
use Rattle.calendar_values.specs.declared.month.Month.TheVariants.{October, November, December}
use Rattle.calendar_values.specs.declared.weekday.Weekday.{Weekday}
use Rattle.calendar_values.specs.declared.weekday.Weekday.TheVariants.{Monday, Tuesday, Wednesday, Thursday, Friday, Saturday, Sunday}
use Rattle.rfc3339.specs.FieldDigitLemmas.{digit_again}
use Rattle.rfc3339.specs.Reading.{digit_at, two_digits_at, mark_at}
use Rattle.format_descriptions.specs.Groups.{written_from}
use Rattle.format_descriptions.specs.Names.{month_of_number, weekday_of_number, name_of_month, name_of_weekday}
use Rattle.format_descriptions.specs.Reading.{two_at, letter_at, word_at}
use Rattle.format_descriptions.specs.Rfc2822.{past_blanks, mark_between, then_blanks, then_mark, starts_letter, mail_year_at}
use Rattle.format_descriptions.specs.Rfc2822.{mail_zone_at, named_zone_at, mail_front, mail_parts, are_comments}
use Rattle.format_descriptions.specs.WellKnown.{is_mail_year, rfc2822_items}
use Rattle.format_descriptions.specs.Written.{component_text, flat_text, item_text, items_text, two_text, year_text, four_text, offset_hour_text}
use Rattle.format_descriptions.specs.Read.{agrees, component_at, no_parts, with_part}
use Rattle.format_descriptions.specs.RoundTrips.{AreWritten, is_whole, number_of, parts_of, takes_digits}
use Rattle.format_descriptions.specs.Rfc2822.{part_read, weekday_read, date_read, clock_read, offset_read, year_read}
use Rattle.format_descriptions.specs.declared.component.Component.{Component}
use Rattle.format_descriptions.specs.declared.component.Component.TheVariants.{WeekdayName, Day, MonthName, Year, Hour, Minute, Second}
use Rattle.format_descriptions.specs.declared.component.Component.TheVariants.{OffsetHour, OffsetMinute}
use Rattle.format_descriptions.specs.declared.modifiers.NameForm.TheVariants.{Short}
use Rattle.format_descriptions.specs.declared.modifiers.ReadCase.TheVariants.{Any}
use Rattle.format_descriptions.specs.declared.modifiers.YearBase.TheVariants.{Calendar}
use Rattle.format_descriptions.specs.declared.modifiers.YearRange.TheVariants.{Standard}
use Rattle.format_descriptions.specs.declared.value_refusal.Field.{Field}
use Rattle.format_descriptions.specs.declared.value_refusal.Field.TheVariants as field
use Rattle.format_descriptions.proofs.RoundTripLemmas.{component-again}
use Rattle.format_descriptions.specs.declared.modifiers.Padding.TheVariants.{Zero, Bare}
use Rattle.format_descriptions.specs.declared.modifiers.Sign.TheVariants.{Automatic, Mandatory}
use Rattle.format_descriptions.specs.declared.parts.Parts.{Parts}

-- ---- white space

-- no white space begins the text
abbrev BeginsApart : List ℕ → Type 0
BeginsApart text = past_blanks text ≡ text

apart-byte : (first : ℕ) (text : List ℕ) → is_ascii_whitespace first ≡ false → BeginsApart (first ∷ text)
unfolding past_blanks
apart-byte first text black = rw black refl

apart-letter : (text : List ℕ) → starts_letter text ≡ true → BeginsApart text
apart-letter [] is = absurd cc
apart-letter (first ∷ text) is =
    let black : is_ascii_whitespace first ≡ false = grind (arith, nat_tests) in apart-byte first text black

apart-two : (n : ℕ) (rest : List ℕ) → BeginsApart (two_text Zero n ++ rest)
unfolding two_text last_digits
apart-two n rest =
    let black : is_ascii_whitespace (48 + n / 10 % 10) ≡ false = grind (arith, nat_tests) in apart-byte (48 + n / 10 % 10) _ black

letter-of_weekday : (w : Weekday) (rest : List ℕ) → starts_letter (take 3 (weekday_name w) ++ rest) ≡ true
letter-of_weekday Monday rest = refl
letter-of_weekday Tuesday rest = refl
letter-of_weekday Wednesday rest = refl
letter-of_weekday Thursday rest = refl
letter-of_weekday Friday rest = refl
letter-of_weekday Saturday rest = refl
letter-of_weekday Sunday rest = refl

letter-of_month : (m : Month) (rest : List ℕ) → starts_letter (take 3 (month_name m) ++ rest) ≡ true
letter-of_month January rest = refl
letter-of_month February rest = refl
letter-of_month March rest = refl
letter-of_month April rest = refl
letter-of_month May rest = refl
letter-of_month June rest = refl
letter-of_month July rest = refl
letter-of_month August rest = refl
letter-of_month September rest = refl
letter-of_month October rest = refl
letter-of_month November rest = refl
letter-of_month December rest = refl

pub letter-weekday : (n : ℕ) (rest : List ℕ) → starts_letter (take 3 (name_of_weekday n) ++ rest) ≡ true
letter-weekday n rest = letter-of_weekday (weekday_of_number n) rest

pub apart-weekday : (n : ℕ) (rest : List ℕ) → BeginsApart (take 3 (name_of_weekday n) ++ rest)
apart-weekday n rest = apart-letter _ (letter-weekday n rest)

pub apart-month : (n : ℕ) (rest : List ℕ) → BeginsApart (take 3 (name_of_month n) ++ rest)
apart-month n rest = apart-letter _ (letter-of_month (month_of_number n) rest)

-- a space before a text that begins with none
pub blanks-space : (p : Parts) (text : List ℕ) → BeginsApart text → then_blanks (Ok (p, 32 ∷ text)) ≡ Ok (p, text)
unfolding past_blanks
blanks-space p text apart =
    let longer : (length text == suc (length text)) ≡ false = grind (arith, nat_tests) in
    rw (apart, longer) refl

pub comma-space : (p : Parts) (text : List ℕ) → BeginsApart text → then_mark 44 (Ok (p, 44 ∷ 32 ∷ text)) ≡ Ok (p, text)
unfolding past_blanks mark_at
comma-space p text apart = rw apart refl

pub colon-two : (p : Parts) (text : List ℕ) → BeginsApart text → then_mark 58 (Ok (p, 58 ∷ text)) ≡ Ok (p, text)
unfolding past_blanks mark_at
colon-two p text apart = rw apart refl

pub colon-between : (text : List ℕ) → BeginsApart text → mark_between 58 (58 ∷ text) ≡ Some text
unfolding past_blanks mark_at
colon-between text apart = rw apart refl

-- ---- numbers

-- two digits are read as a day of one digit or two
pub day-again : (n : ℕ) (rest : List ℕ) → n < 100 → digit_at rest ≡ None → two_at Bare (two_text Zero n ++ rest) ≡ Some (n, rest)
unfolding two_at two_text last_digits
day-again n rest low apart = grind (arith, nat_tests, digit_again)

-- four digits are read as a year of mail
first_two-again : (n : ℕ) (rest : List ℕ) → two_digits_at (last_digits 4 n ++ rest) ≡ Some (n / 100 % 100, last_digits 2 n ++ rest)
unfolding two_digits_at last_digits
first_two-again n rest = grind (arith, nat_tests, digit_again)

last_two-again : (n : ℕ) (rest : List ℕ) → two_digits_at (last_digits 2 n ++ rest) ≡ Some (n % 100, rest)
unfolding two_digits_at last_digits
last_two-again n rest = grind (arith, nat_tests, digit_again)

pub mail_year-again : (n : ℕ) (rest : List ℕ) → 1_900 ≤ n → n < 10_000 → digit_at rest ≡ None
    → mail_year_at (year_digits n ++ rest) ≡ Some (n, rest)
unfolding mail_year_at year_digits
mail_year-again n rest first last apart =
    let four : nat_lt n 10_000 ≡ true = grind (arith, nat_tests) in
    let whole : n / 100 % 100 * 100 + n % 100 ≡ n = omega (arith, last) in
    let late : nat_lt n 1_900 ≡ false = grind (arith, nat_tests) in
    rw (four, first_two-again n rest, last_two-again n rest, whole, late, apart) refl

-- an offset begins with a sign, and so with no zone
pub no_zone-offset : (o : ℤ) (rest : List ℕ) → mail_zone_at (offset_hour_text Mandatory Zero o ++ rest) ≡ None
unfolding mail_zone_at named_zone_at word_at letter_at offset_hour_text
no_zone-offset o rest = elim (cases_Bool (int_lt o (pos 0))) [
  | inl t ↦ rw t refl
  | inr f ↦ rw f refl
]

pub apart-offset : (o : ℤ) (rest : List ℕ) → BeginsApart (offset_hour_text Mandatory Zero o ++ rest)
unfolding past_blanks offset_hour_text
apart-offset o rest = elim (cases_Bool (int_lt o (pos 0))) [
  | inl t ↦ rw t refl
  | inr f ↦ rw f refl
]

-- ---- parts

-- a component that is written is read
abbrev number_there : Component → ℤ → ℕ → ℤ → Parts → Parts
number_there c day clock o p = with_part c (number_of c day clock o) p

part-again : (c : Component) (field : Field) (day : ℤ) (clock : ℕ) (o : ℤ) (rest : List ℕ) (p : Parts) → IsTrue (is_whole c)
    → takes_digits c ≡ false → AreWritten day clock o → agrees c (number_of c day clock o) p ≡ true
    → part_read c field (component_text c day clock o ++ rest) p ≡ Ok (number_there c day clock o p, rest)
part-again c field day clock o rest p whole takes w agree =
    rw (component-again c day clock o rest whole (λ t. let e = rw takes at t in absurd cc) w, agree) refl

-- the numbers of a text of mail
abbrev at_weekday : Component
at_weekday = WeekdayName Short Any

abbrev at_month : Component
at_month = MonthName Short Any

abbrev at_year : Component
at_year = Year Calendar Automatic Zero Standard

-- the day of the week, a comma and a space
weekday-again : (day : ℤ) (clock : ℕ) (o : ℤ) (rest : List ℕ) (p : Parts) → AreWritten day clock o → BeginsApart rest
    → agrees at_weekday (number_of at_weekday day clock o) p ≡ true
    → weekday_read (component_text at_weekday day clock o ++ 44 ∷ 32 ∷ rest) p ≡ Ok (number_there at_weekday day clock o p, rest)
unfolding component_text
weekday-again day clock o rest p w apart agree =
    rw (letter-weekday (weekday_of day) (44 ∷ 32 ∷ rest), part-again at_weekday field.Weekday day clock o (44 ∷ 32 ∷ rest) p refl refl w agree)
    (comma-space _ rest apart)

-- the day of the month
day-there : (day : ℤ) (clock : ℕ) (o : ℤ) (rest : List ℕ) (p : Parts) → digit_at rest ≡ None → p.day ≡ None
    → part_read (Day Bare) field.Day (component_text (Day Zero) day clock o ++ rest) p ≡ Ok (number_there (Day Zero) day clock o p, rest)
unfolding component_text component_at agrees with_part
day-there day clock o rest p apart none =
    let date = IsCalendarDate-of day in
    let bounds = days_in_month_bounds (is_leap_year (year_of day)) (month_of day) in
    rw (day-again (day_of_month_of day) rest (omega (arith, date.day_last, bounds)) apart, none) refl

-- the year
year-there : (day : ℤ) (clock : ℕ) (o : ℤ) (rest : List ℕ) (p : Parts) → IsTrue (is_mail_year (year_of day)) → digit_at rest ≡ None → p.year ≡ None
    → year_read (component_text at_year day clock o ++ rest) p ≡ Ok (number_there at_year day clock o p, rest)
unfolding component_text year_text four_text agrees with_part
year-there day clock o rest p mail apart none =
    let both = and_parts (not (int_lt (year_of day) (pos 1_900))) (int_lt (year_of day) (pos 10_000)) mail in
    let low = both.0 in
    let high = both.1 in
    let first : 1_900 ≤ unsigned_abs (year_of day) = grind (arith, nat_tests, signed_arith) in
    let last : unsigned_abs (year_of day) < 10_000 = grind (arith, nat_tests, signed_arith) in
    let positive : int_lt (year_of day) (pos 0) ≡ false = grind (arith, nat_tests, signed_arith) in
    let small : int_lt (pos 9_999) (year_of day) ≡ false = grind (arith, nat_tests, signed_arith) in
    rw (positive, small, mail_year-again (unsigned_abs (year_of day)) rest first last apart, none) refl

-- a space is no digit
no_digit-space : (rest : List ℕ) → digit_at (32 ∷ rest) ≡ None
unfolding digit_at
no_digit-space rest = refl

-- the texts of mail, from their last part on
abbrev offset_part : ℤ → ℕ → ℤ → List ℕ
offset_part day clock o = component_text (OffsetHour Mandatory Zero) day clock o ++ (component_text (OffsetMinute Zero) day clock o ++ [])

abbrev clock_part : ℤ → ℕ → ℤ → List ℕ → List ℕ
clock_part day clock o rest =
    component_text (Hour Zero) day clock o ++ 58 ∷ (component_text (Minute Zero) day clock o ++ 58 ∷ (component_text (Second Zero) day clock o ++ 32 ∷ rest))

abbrev date_part : ℤ → ℕ → ℤ → List ℕ → List ℕ
date_part day clock o rest =
    component_text (Day Zero) day clock o ++ 32 ∷ (component_text at_month day clock o ++ 32 ∷ (component_text at_year day clock o ++ 32 ∷ rest))

abbrev mail_text : ℤ → ℕ → ℤ → List ℕ
mail_text day clock o = component_text at_weekday day clock o ++ 44 ∷ 32 ∷ date_part day clock o (clock_part day clock o (offset_part day clock o))

-- the same texts begin with no white space
apart-year : (day : ℤ) (clock : ℕ) (o : ℤ) (rest : List ℕ) → IsTrue (is_mail_year (year_of day)) → BeginsApart (component_text at_year day clock o ++ rest)
unfolding component_text year_text four_text year_digits last_digits
apart-year day clock o rest mail =
    let both = and_parts (not (int_lt (year_of day) (pos 1_900))) (int_lt (year_of day) (pos 10_000)) mail in
    let low = both.0 in
    let high = both.1 in
    let last : nat_lt (unsigned_abs (year_of day)) 10_000 ≡ true = grind (arith, nat_tests, signed_arith) in
    let positive : int_lt (year_of day) (pos 0) ≡ false = grind (arith, nat_tests, signed_arith) in
    let small : int_lt (pos 9_999) (year_of day) ≡ false = grind (arith, nat_tests, signed_arith) in
    let n = unsigned_abs (year_of day) in
    let black : is_ascii_whitespace (48 + n / 10 / 10 / 10 % 10) ≡ false = grind (arith, nat_tests) in
    rw (positive, small, last) (apart-byte (48 + n / 10 / 10 / 10 % 10) _ black)

apart-month_text : (day : ℤ) (clock : ℕ) (o : ℤ) (rest : List ℕ) → BeginsApart (component_text at_month day clock o ++ rest)
unfolding component_text
apart-month_text day clock o rest = apart-month (month_of day) rest

apart-day : (day : ℤ) (clock : ℕ) (o : ℤ) (rest : List ℕ) → BeginsApart (component_text (Day Zero) day clock o ++ rest)
unfolding component_text
apart-day day clock o rest = apart-two (day_of_month_of day) rest

apart-hour : (day : ℤ) (clock : ℕ) (o : ℤ) (rest : List ℕ) → BeginsApart (component_text (Hour Zero) day clock o ++ rest)
unfolding component_text
apart-hour day clock o rest = apart-two (hour_of clock) rest

apart-minute : (day : ℤ) (clock : ℕ) (o : ℤ) (rest : List ℕ) → BeginsApart (component_text (Minute Zero) day clock o ++ rest)
unfolding component_text
apart-minute day clock o rest = apart-two (minute_of clock) rest

apart-second : (day : ℤ) (clock : ℕ) (o : ℤ) (rest : List ℕ) → BeginsApart (component_text (Second Zero) day clock o ++ rest)
unfolding component_text
apart-second day clock o rest = apart-two (second_of clock) rest

apart-offset_text : (day : ℤ) (clock : ℕ) (o : ℤ) (rest : List ℕ) → BeginsApart (component_text (OffsetHour Mandatory Zero) day clock o ++ rest)
unfolding component_text
apart-offset_text day clock o rest = apart-offset o rest

apart-weekday_text : (day : ℤ) (clock : ℕ) (o : ℤ) (rest : List ℕ) → BeginsApart (component_text at_weekday day clock o ++ rest)
unfolding component_text
apart-weekday_text day clock o rest = apart-weekday (weekday_of day) rest

no_zone-text : (day : ℤ) (clock : ℕ) (o : ℤ) (rest : List ℕ) → mail_zone_at (component_text (OffsetHour Mandatory Zero) day clock o ++ rest) ≡ None
unfolding component_text
no_zone-text day clock o rest = no_zone-offset o rest

date-there : (day : ℤ) (clock : ℕ) (o : ℤ) (rest : List ℕ) (p : Parts) → AreWritten day clock o → IsTrue (is_mail_year (year_of day)) → BeginsApart rest
    → p.day ≡ None → p.month ≡ None → p.year ≡ None → date_read (date_part day clock o rest) p
    ≡ Ok (number_there at_year day clock o (number_there at_month day clock o (number_there (Day Zero) day clock o p)), rest)
unfolding with_part agrees
date-there day clock o rest p w mail apart d m y =
    let year = component_text at_year day clock o ++ 32 ∷ rest in
    let month = component_text at_month day clock o ++ 32 ∷ year in
    let month_apart : BeginsApart month = apart-month_text day clock o (32 ∷ year) in
    let first = number_there (Day Zero) day clock o p in
    let second = number_there at_month day clock o first in
    let none : agrees at_month (number_of at_month day clock o) first ≡ true = rw m refl in
    rw (
      day-there day clock o (32 ∷ month) p (no_digit-space month) d,
      blanks-space first month month_apart,
      part-again at_month field.Month day clock o (32 ∷ year) first refl refl w none,
      blanks-space second year (apart-year day clock o (32 ∷ rest) mail),
      year-there day clock o (32 ∷ rest) second mail (no_digit-space rest) y,
    )
    (blanks-space (number_there at_year day clock o second) rest apart)

clock-there : (day : ℤ) (clock : ℕ) (o : ℤ) (rest : List ℕ) (p : Parts) → AreWritten day clock o
    → p.hour ≡ None → p.minute ≡ None → p.second ≡ None → clock_read (clock_part day clock o rest) p
    ≡ Ok (number_there (Second Zero) day clock o (number_there (Minute Zero) day clock o (number_there (Hour Zero) day clock o p)), 32 ∷ rest)
unfolding with_part agrees
clock-there day clock o rest p w h m s =
    let second = component_text (Second Zero) day clock o ++ 32 ∷ rest in
    let minute = component_text (Minute Zero) day clock o ++ 58 ∷ second in
    let first = number_there (Hour Zero) day clock o p in
    let next = number_there (Minute Zero) day clock o first in
    let agree_hour : agrees (Hour Zero) (number_of (Hour Zero) day clock o) p ≡ true = rw h refl in
    let agree_minute : agrees (Minute Zero) (number_of (Minute Zero) day clock o) first ≡ true = rw m refl in
    let agree_second : agrees (Second Zero) (number_of (Second Zero) day clock o) next ≡ true = rw s refl in
    rw (
      part-again (Hour Zero) field.Hour day clock o (58 ∷ minute) p refl refl w agree_hour,
      colon-two first minute (apart-minute day clock o (58 ∷ second)),
      part-again (Minute Zero) field.Minute day clock o (58 ∷ second) first refl refl w agree_minute,
      colon-between second (apart-second day clock o (32 ∷ rest)),
    )
    (part-again (Second Zero) field.Second day clock o (32 ∷ rest) next refl refl w agree_second)

offset-there : (day : ℤ) (clock : ℕ) (o : ℤ) (p : Parts) → AreWritten day clock o → p.is_west ≡ None → p.offset_hour ≡ None → p.offset_minute ≡ None
    → offset_read (offset_part day clock o) p (mail_zone_at (offset_part day clock o))
    ≡ Ok (number_there (OffsetMinute Zero) day clock o (number_there (OffsetHour Mandatory Zero) day clock o p), [])
unfolding with_part agrees
offset-there day clock o p w west h m =
    let minute = component_text (OffsetMinute Zero) day clock o ++ [] in
    let first = number_there (OffsetHour Mandatory Zero) day clock o p in
    let agree_hour : agrees (OffsetHour Mandatory Zero) (number_of (OffsetHour Mandatory Zero) day clock o) p ≡ true = rw (west, h) refl in
    let agree_minute : agrees (OffsetMinute Zero) (number_of (OffsetMinute Zero) day clock o) first ≡ true = rw m refl in
    rw (no_zone-text day clock o minute, part-again (OffsetHour Mandatory Zero) field.OffsetHour day clock o minute p refl refl w agree_hour)
    (part-again (OffsetMinute Zero) field.OffsetMinute day clock o [] first refl refl w agree_minute)

-- the whole text
abbrev mail_read : ℤ → ℕ → ℤ → Parts
mail_read day clock o =
    let date = number_there at_year day clock o (number_there at_month day clock o
    (number_there (Day Zero) day clock o (number_there at_weekday day clock o no_parts))) in
    let time = number_there (Second Zero) day clock o (number_there (Minute Zero) day clock o (number_there (Hour Zero) day clock o date)) in
    number_there (OffsetMinute Zero) day clock o (number_there (OffsetHour Mandatory Zero) day clock o time)

mail_front-there : (day : ℤ) (clock : ℕ) (o : ℤ) → AreWritten day clock o → IsTrue (is_mail_year (year_of day))
    → mail_front (mail_text day clock o) no_parts ≡ Ok (mail_read day clock o, [])
unfolding mail_front with_part agrees are_comments
mail_front-there day clock o w mail =
    let offset = offset_part day clock o in
    let time = clock_part day clock o offset in
    let date = date_part day clock o time in
    let weekday = number_there at_weekday day clock o no_parts in
    let dated = number_there at_year day clock o (number_there at_month day clock o (number_there (Day Zero) day clock o weekday)) in
    let timed = number_there (Second Zero) day clock o (number_there (Minute Zero) day clock o (number_there (Hour Zero) day clock o dated)) in
    rw (
      apart-weekday_text day clock o (44 ∷ 32 ∷ date),
      weekday-again day clock o date no_parts w (apart-day day clock o _) refl,
      date-there day clock o time weekday w mail (apart-hour day clock o _) refl refl refl,
      clock-there day clock o offset dated w refl refl refl,
      blanks-space timed offset (apart-offset_text day clock o _),
      offset-there day clock o timed w refl refl refl,
    ) refl

pub mail_parts-there : (day : ℤ) (clock : ℕ) (o : ℤ) → AreWritten day clock o → IsTrue (is_mail_year (year_of day))
    → mail_parts (items_text rfc2822_items day clock o) ≡ Ok (parts_of rfc2822_items day clock o no_parts)
unfolding flat_text item_text written_from
mail_parts-there day clock o w mail = rw (mail_front-there day clock o w mail) refl

-- The byte that a text of a component begins with.
use Rattle.std.proofs.Common.{◌≡◌, ℕ, zero, suc, ◌+◌, ◌-◌, ◌≤◌, ◌<◌, ◌==◌, Bool, true, false, List, [], ◌∷◌, ◌++◌, length, replicate, refl, sym, ap, ◌∙◌, arith}
use Rattle.std.proofs.Common.{inl, inr}
use Rattle.std.specs.Prelude.{IsTrue, ◌||◌, nat_lt}
use Rattle.std.specs.Char.{is_ascii_alphabetic, is_ascii_digit, to_ascii_lowercase}
use Rattle.std.specs.List.{list_all}
use Rattle.std.specs.Str.{str_to_ascii_lowercase}
use Rattle.std.proofs.lemmas.Bool.{and_parts, cases_Bool}
use Rattle.std.proofs.lemmas.Bool.Decides.{nat_tests}
use Rattle.calendar_values.specs.Month.{month_name}
use Rattle.calendar_values.specs.Weekday.{weekday_name}
use Rattle.calendar_values.specs.declared.month.Month.{Month}
use Rattle.calendar_values.specs.declared.month.Month.TheVariants.{January, February, March, April, May, June, July, August, September, October, November}
use Rattle.calendar_values.specs.declared.month.Month.TheVariants.{December}
use Rattle.calendar_values.specs.declared.weekday.Weekday.{Weekday}
use Rattle.calendar_values.specs.declared.weekday.Weekday.TheVariants.{Monday, Tuesday, Wednesday, Thursday, Friday, Saturday, Sunday}
use Rattle.format_descriptions.specs.Modifiers.{utc_word, digit_count, unix_digits}
use Rattle.format_descriptions.specs.Names.{month_of_number, weekday_of_number}
use Rattle.format_descriptions.specs.SeparateChoices.{begins_number, begins_sign, begins_signed, can_begin, has_text}
use Rattle.format_descriptions.specs.Spelled.{IsText}
use Rattle.format_descriptions.specs.SpelledPieces.{IsDecimal, IsNumeral, IsUnsigned, IsAfterSign, IsSigned, IsSubsecond, HasCount, IsWord, sign_text}
use Rattle.format_descriptions.specs.SpelledPieces.{first_hour, more_digits}
use Rattle.format_descriptions.specs.Written.{name_in_form, period_text, weekday_number_by}
use Rattle.format_descriptions.specs.declared.component.Component.{Component}
use Rattle.format_descriptions.specs.declared.component.Component.TheVariants as components
use Rattle.format_descriptions.specs.declared.modifiers.Case.{Case}
use Rattle.format_descriptions.specs.declared.modifiers.Case.TheVariants.{Upper, Lower}
use Rattle.format_descriptions.specs.declared.modifiers.NameForm.{NameForm}
use Rattle.format_descriptions.specs.declared.modifiers.NameForm.TheVariants.{Long, Short}
use Rattle.format_descriptions.specs.declared.modifiers.Padding.{Padding}
use Rattle.format_descriptions.specs.declared.modifiers.Padding.TheVariants.{Zero, Space, Bare}
use Rattle.format_descriptions.specs.declared.modifiers.ReadCase.{ReadCase}
use Rattle.format_descriptions.specs.declared.modifiers.ReadCase.TheVariants.{Same, Any}
use Rattle.format_descriptions.specs.declared.modifiers.Sign.{Sign}
use Rattle.format_descriptions.specs.declared.modifiers.Sign.TheVariants.{Automatic, Mandatory}
use Rattle.format_descriptions.specs.declared.modifiers.UnixPrecision.{UnixPrecision}
use Rattle.format_descriptions.specs.declared.modifiers.UnixPrecision.TheVariants.{Seconds, Milliseconds, Microseconds, Nanoseconds}
use Rattle.format_descriptions.specs.declared.modifiers.UtcWord.{UtcWord}
use Rattle.format_descriptions.specs.declared.modifiers.UtcWord.TheVariants.{Utc, Gmt, Zulu}
use Rattle.format_descriptions.proofs.SpelledComponentLemmas.{weekday_number-below}

-- a text begins with a byte of this kind
pub record Begins (kind : ℕ → Bool) (piece : List ℕ) : Type 0 where
  pub byte : ℕ
  pub tail : List ℕ
  pub front : piece ≡ byte ∷ tail
  pub is : IsTrue (kind byte)

wider : (kind other : ℕ → Bool) (piece : List ℕ) → ((b : ℕ) → IsTrue (kind b) → IsTrue (other b)) → Begins kind piece → Begins other piece
wider kind other piece f g = record { byte = g.byte; tail = g.tail; front = g.front; is = f g.byte g.is }

or-left : (a b : Bool) → IsTrue a → IsTrue (a || b)
or-left true b h = refl
or-left false b h = absurd cc

or-right : (a b : Bool) → IsTrue b → IsTrue (a || b)
or-right true b h = refl
or-right false b h = h

-- ---- digits

digits-begin : (piece : List ℕ) → IsTrue (list_all is_ascii_digit piece) → 1 ≤ length piece → Begins is_ascii_digit piece
digits-begin [] are some = absurd (omega (arith, some))
digits-begin (b ∷ piece) are some =
    let both = and_parts (is_ascii_digit b) (list_all is_ascii_digit piece) are in record { byte = b; tail = piece; front = refl; is = both.0 }

decimal-begins : (least most n : ℕ) (piece : List ℕ) → 1 ≤ least → IsDecimal least most n piece → Begins is_ascii_digit piece
decimal-begins least most n piece some d = digits-begin piece d.are (omega (arith, some, d.at_least))

space-begins : (width most n spaces : ℕ) (digits piece : List ℕ) → spaces < width → piece ≡ replicate spaces 32 ++ digits
    → IsDecimal (width - spaces) (most - spaces) n digits → Begins (begins_number Space) piece
space-begins width most n zero digits piece few is d =
    rw is (wider is_ascii_digit (begins_number Space) digits (λ b h. or-left (is_ascii_digit b) (b == 32) h)
    (decimal-begins (width - 0) (most - 0) n digits (omega (arith, few)) d))
space-begins width most n (suc spaces) digits piece few is d =
    record { byte = 32; tail = replicate spaces 32 ++ digits; front = is; is = refl }

numeral-begins : (padding : Padding) (width most n : ℕ) (piece : List ℕ) → 1 ≤ width → IsNumeral padding width most n piece
    → Begins (begins_number padding) piece
numeral-begins Zero width most n piece some d = decimal-begins width most n piece some d
numeral-begins Space width most n piece some d = space-begins width most n d.0 d.1 piece d.2 d.3 d.4
numeral-begins Bare width most n piece some d = decimal-begins 1 most n piece (omega arith) d

unsigned-begins : (padding : Padding) (width : ℕ) (n : Bool × ℕ) (piece : List ℕ) → 1 ≤ width → IsUnsigned padding width n piece
    → Begins (begins_number padding) piece
unsigned-begins padding width n piece some d = numeral-begins padding width width n.1 piece some d.1

sign-begins : (is_negative : Bool) (number piece : List ℕ) → piece ≡ sign_text is_negative ++ number → Begins begins_sign piece
sign-begins true number piece is = record { byte = 45; tail = number; front = is; is = refl }
sign-begins false number piece is = record { byte = 43; tail = number; front = is; is = refl }

after_sign-begins : (padding : Padding) (width more : ℕ) (n : Bool × ℕ) (piece : List ℕ) → IsAfterSign padding width more n piece
    → Begins begins_sign piece
after_sign-begins padding width more n piece d = sign-begins n.0 d.0 piece d.1

signed-begins : (sign : Sign) (padding : Padding) (width more : ℕ) (n : Bool × ℕ) (piece : List ℕ) → 1 ≤ width
    → IsSigned sign padding width more n piece → Begins (begins_signed sign padding) piece
signed-begins Automatic padding width more n piece some d = elim d [
  | inl after ↦
      wider begins_sign (begins_signed Automatic padding) piece (λ b h. or-left (begins_sign b) (begins_number padding b) h)
      (after_sign-begins padding width more n piece after)
  | inr plain ↦
      wider (begins_number padding) (begins_signed Automatic padding) piece (λ b h. or-right (begins_sign b) (begins_number padding b) h)
      (unsigned-begins padding width n piece some plain)
]
signed-begins Mandatory padding width more n piece some d = after_sign-begins padding width more n piece d

counted-some : (count size : ℕ) → HasCount count size → 1 ≤ size
counted-some zero size h = h
counted-some (suc count) size h = omega (arith, h)

subsecond-begins : (count n : ℕ) (piece : List ℕ) → IsSubsecond count n piece → Begins is_ascii_digit piece
subsecond-begins count n piece d = digits-begin piece d.are (counted-some count (length piece) d.size)

-- ---- words

alphabetic-lowercase : (c : ℕ) → is_ascii_alphabetic (to_ascii_lowercase c) ≡ is_ascii_alphabetic c
alphabetic-lowercase c = grind (arith, nat_tests)

heads : (a b : ℕ) (x y : List ℕ) → a ∷ x ≡ b ∷ y → a ≡ b
heads a b x y e = cc

word-begins : (case : ReadCase) (word piece : List ℕ) → IsWord case word piece → Begins is_ascii_alphabetic word → Begins is_ascii_alphabetic piece
word-begins Same word piece is g = rw is g
word-begins Any word [] is g =
    let no : str_to_ascii_lowercase [] ≡ str_to_ascii_lowercase (g.byte ∷ g.tail) = rw g.front at is in absurd cc
word-begins Any word (b ∷ piece) is g =
    let same : to_ascii_lowercase b ≡ to_ascii_lowercase g.byte =
    heads _ _ (str_to_ascii_lowercase piece) (str_to_ascii_lowercase g.tail) (rw g.front at is) in
    record {
      byte = b;
      tail = piece;
      front = refl;
      is = sym (alphabetic-lowercase b) ∙ ap (λ (z : ℕ). is_ascii_alphabetic z) same ∙ alphabetic-lowercase g.byte ∙ g.is;
    }

starts_letter : List ℕ → Bool
starts_letter [] = false
starts_letter (b ∷ tail) = is_ascii_alphabetic b

letter-begins : (word : List ℕ) → IsTrue (starts_letter word) → Begins is_ascii_alphabetic word
unfolding starts_letter
letter-begins [] h = absurd cc
letter-begins (b ∷ tail) h = record { byte = b; tail = tail; front = refl; is = h }

month-letter : (form : NameForm) (month : Month) → IsTrue (starts_letter (name_in_form form (month_name month)))
unfolding starts_letter
month-letter Long January = refl
month-letter Long February = refl
month-letter Long March = refl
month-letter Long April = refl
month-letter Long May = refl
month-letter Long June = refl
month-letter Long July = refl
month-letter Long August = refl
month-letter Long September = refl
month-letter Long October = refl
month-letter Long November = refl
month-letter Long December = refl
month-letter Short January = refl
month-letter Short February = refl
month-letter Short March = refl
month-letter Short April = refl
month-letter Short May = refl
month-letter Short June = refl
month-letter Short July = refl
month-letter Short August = refl
month-letter Short September = refl
month-letter Short October = refl
month-letter Short November = refl
month-letter Short December = refl

weekday-letter : (form : NameForm) (day : Weekday) → IsTrue (starts_letter (name_in_form form (weekday_name day)))
unfolding starts_letter
weekday-letter Long Monday = refl
weekday-letter Long Tuesday = refl
weekday-letter Long Wednesday = refl
weekday-letter Long Thursday = refl
weekday-letter Long Friday = refl
weekday-letter Long Saturday = refl
weekday-letter Long Sunday = refl
weekday-letter Short Monday = refl
weekday-letter Short Tuesday = refl
weekday-letter Short Wednesday = refl
weekday-letter Short Thursday = refl
weekday-letter Short Friday = refl
weekday-letter Short Saturday = refl
weekday-letter Short Sunday = refl

period-letter : (case : Case) (hour : ℕ) → IsTrue (starts_letter (period_text case hour))
unfolding starts_letter period_text
period-letter Upper hour = elim (cases_Bool (nat_lt hour 12)) [
  | inl t ↦ rw t refl
  | inr f ↦ rw f refl
]
period-letter Lower hour = elim (cases_Bool (nat_lt hour 12)) [
  | inl t ↦ rw t refl
  | inr f ↦ rw f refl
]

utc-letter : (word : UtcWord) → IsTrue (starts_letter (utc_word word))
unfolding starts_letter
utc-letter Utc = refl
utc-letter Gmt = refl
utc-letter Zulu = refl

-- ---- components

unix-some : (precision : UnixPrecision) → 1 ≤ unix_digits precision
unix-some Seconds = omega arith
unix-some Milliseconds = omega arith
unix-some Microseconds = omega arith
unix-some Nanoseconds = omega arith

weekday_digit : (day : ℕ) → day < 10 → IsTrue (is_ascii_digit (48 + day))
weekday_digit day few = grind (arith, nat_tests, few)

pub component-begins : (c : Component) (n : Bool × ℕ) (piece : List ℕ) → IsTrue (has_text c) → IsText c n piece → Begins (can_begin c) piece
component-begins (components.Year base sign padding range) n piece some is = signed-begins sign padding 4 (more_digits range) n piece (omega arith) is
component-begins (components.YearCentury base sign padding range) n piece some is = signed-begins sign padding 2 (more_digits range) n piece (omega arith) is
component-begins (components.YearLastTwo base padding) n piece some is = unsigned-begins padding 2 n piece (omega arith) is
component-begins (components.Month padding) n piece some is = unsigned-begins padding 2 n piece (omega arith) is
component-begins (components.MonthName form case) n piece some is =
    word-begins case _ piece is.3 (letter-begins _ (month-letter form (month_of_number n.1)))
component-begins (components.Day padding) n piece some is = unsigned-begins padding 2 n piece (omega arith) is
component-begins (components.Ordinal padding) n piece some is = unsigned-begins padding 3 n piece (omega arith) is
component-begins (components.WeekdayName form case) n piece some is =
    word-begins case _ piece is.2 (letter-begins _ (weekday-letter form (weekday_of_number n.1)))
component-begins (components.WeekdayNumber start count) n piece some is =
    record { byte = 48 + weekday_number_by start count n.1; tail = []; front = is.2; is = weekday_digit _ (weekday_number-below start count n.1) }
component-begins (components.WeekNumber rule padding) n piece some is = unsigned-begins padding 2 n piece (omega arith) is
component-begins (components.Hour padding) n piece some is = unsigned-begins padding 2 n piece (omega arith) is
component-begins (components.Hour12 padding) n piece some is = unsigned-begins padding 2 n piece (omega arith) is
component-begins (components.Period case read) n piece some is = word-begins read _ piece is.1 (letter-begins _ (period-letter case (first_hour n.0)))
component-begins (components.Minute padding) n piece some is = unsigned-begins padding 2 n piece (omega arith) is
component-begins (components.Second padding) n piece some is = unsigned-begins padding 2 n piece (omega arith) is
component-begins (components.Subsecond digits) n piece some is = subsecond-begins (digit_count digits) n.1 piece is.1
component-begins (components.OffsetHour sign padding) n piece some is = signed-begins sign padding 2 0 n piece (omega arith) is
component-begins (components.OffsetMinute padding) n piece some is = unsigned-begins padding 2 n piece (omega arith) is
component-begins (components.OffsetSecond padding) n piece some is = unsigned-begins padding 2 n piece (omega arith) is
component-begins (components.UnixTimestamp precision sign) n piece some is =
    signed-begins sign Bare (unix_digits precision) 0 n piece (unix-some precision) is
component-begins (components.Ignore count) n piece some is = absurd cc
component-begins components.End n piece some is = absurd cc
component-begins (components.IgnoreWeekday form case) n piece some is =
    word-begins case _ piece is.2 (letter-begins _ (weekday-letter form (weekday_of_number n.1)))
component-begins components.IgnoreDigits n piece some is = digits-begin piece is.1 is.2
component-begins (components.OffsetWord word case) n piece some is = word-begins case _ piece is.1 (letter-begins _ (utc-letter word))
component-begins (components.YearSince first) n piece some is = decimal-begins 2 2 is.1 piece (omega arith) is.2
component-begins (components.YearSix base) n piece some is = after_sign-begins Zero 6 0 n piece is
component-begins (components.HourFraction digits) n piece some is = subsecond-begins (digit_count digits) is.1 piece is.2
component-begins (components.MinuteFraction digits) n piece some is = subsecond-begins (digit_count digits) is.1 piece is.2

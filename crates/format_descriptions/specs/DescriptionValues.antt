-- The values of the modifiers of descriptions.
use Rattle.std.specs.Prelude.{ℕ, ◌+◌, ◌-◌, ◌*◌, ◌==◌, ◌||◌, not, List, [], ◌∷◌, codes, if◌then◌else◌, nat_lt, Option, Some, None}
use Rattle.format_descriptions.specs.DescriptionWords.{is_word_at, ends_word}
use Rattle.format_descriptions.specs.declared.modifiers.Padding.{Padding}
use Rattle.format_descriptions.specs.declared.modifiers.Padding.TheVariants.{Zero, Space, Bare}
use Rattle.format_descriptions.specs.declared.modifiers.Sign.{Sign}
use Rattle.format_descriptions.specs.declared.modifiers.Sign.TheVariants.{Automatic, Mandatory}
use Rattle.format_descriptions.specs.declared.modifiers.Case.{Case}
use Rattle.format_descriptions.specs.declared.modifiers.Case.TheVariants.{Upper, Lower}
use Rattle.format_descriptions.specs.declared.modifiers.ReadCase.{ReadCase}
use Rattle.format_descriptions.specs.declared.modifiers.ReadCase.TheVariants.{Same, Any}
use Rattle.format_descriptions.specs.declared.modifiers.WeekdayCount.{WeekdayCount}
use Rattle.format_descriptions.specs.declared.modifiers.WeekdayCount.TheVariants.{FromOne, FromZero}
use Rattle.format_descriptions.specs.declared.modifiers.YearBase.{YearBase}
use Rattle.format_descriptions.specs.declared.modifiers.YearBase.TheVariants.{Calendar, IsoWeek}
use Rattle.format_descriptions.specs.declared.modifiers.YearRange.{YearRange}
use Rattle.format_descriptions.specs.declared.modifiers.YearRange.TheVariants.{Standard, Extended}
use Rattle.format_descriptions.specs.declared.modifiers.SubsecondDigits.{SubsecondDigits}
use Rattle.format_descriptions.specs.declared.modifiers.SubsecondDigits.TheVariants.{OneOrMore, One, Two, Three, Four, Five, Six, Seven, Eight, Nine}
use Rattle.format_descriptions.specs.declared.modifiers.UnixPrecision.{UnixPrecision}
use Rattle.format_descriptions.specs.declared.modifiers.UnixPrecision.TheVariants.{Seconds, Milliseconds, Microseconds, Nanoseconds}
use Rattle.format_descriptions.specs.declared.description_values.Repr.{Repr}
use Rattle.format_descriptions.specs.declared.description_values.Repr.TheVariants.{Full, Century, LastTwo, Numerical, Long, Short, Sunday}
use Rattle.format_descriptions.specs.declared.description_values.Repr.TheVariants.{Monday, Iso, TwentyFour, Twelve}

-- the padding at the front of a text
unfoldable pub padding_at : List ℕ → Option Padding
padding_at text =
    if is_word_at (codes "zero") text then Some Zero
    else (if is_word_at (codes "space") text then Some Space
    else (if is_word_at (codes "none") text then Some Bare
    else None))

-- the rule for the sign at the front of a text
unfoldable pub sign_rule_at : List ℕ → Option Sign
sign_rule_at text =
    if is_word_at (codes "automatic") text then Some Automatic
    else (if is_word_at (codes "mandatory") text then Some Mandatory
    else None)

-- the case of the letters at the front of a text
unfoldable pub case_at : List ℕ → Option Case
case_at text =
    if is_word_at (codes "upper") text then Some Upper
    else (if is_word_at (codes "lower") text then Some Lower
    else None)

-- the case that is read, at the front of a text
unfoldable pub read_case_at : List ℕ → Option ReadCase
read_case_at text =
    if is_word_at (codes "true") text then Some Same
    else (if is_word_at (codes "false") text then Some Any
    else None)

-- the number of the first day of a week at the front of a text
unfoldable pub first_number_at : List ℕ → Option WeekdayCount
first_number_at text =
    if is_word_at (codes "true") text then Some FromOne
    else (if is_word_at (codes "false") text then Some FromZero
    else None)

-- the kind of year at the front of a text
unfoldable pub base_at : List ℕ → Option YearBase
base_at text =
    if is_word_at (codes "calendar") text then Some Calendar
    else (if is_word_at (codes "iso_week") text then Some IsoWeek
    else None)

-- the range of years at the front of a text
unfoldable pub range_at : List ℕ → Option YearRange
range_at text =
    if is_word_at (codes "standard") text then Some Standard
    else (if is_word_at (codes "extended") text then Some Extended
    else None)

-- the count of digits at the front of a text, up to five
unfoldable pub few_digits_at : List ℕ → Option SubsecondDigits
few_digits_at text =
    if is_word_at (codes "1+") text then Some OneOrMore
    else (if is_word_at (codes "1") text then Some One
    else (if is_word_at (codes "2") text then Some Two
    else (if is_word_at (codes "3") text then Some Three
    else (if is_word_at (codes "4") text then Some Four
    else (if is_word_at (codes "5") text then Some Five
    else None)))))

-- the count of digits at the front of a text, from six on
unfoldable pub many_digits_at : List ℕ → Option SubsecondDigits
many_digits_at text =
    if is_word_at (codes "6") text then Some Six
    else (if is_word_at (codes "7") text then Some Seven
    else (if is_word_at (codes "8") text then Some Eight
    else (if is_word_at (codes "9") text then Some Nine
    else None)))

-- the unit of a timestamp at the front of a text
unfoldable pub precision_at : List ℕ → Option UnixPrecision
precision_at text =
    if is_word_at (codes "second") text then Some Seconds
    else (if is_word_at (codes "millisecond") text then Some Milliseconds
    else (if is_word_at (codes "microsecond") text then Some Microseconds
    else (if is_word_at (codes "nanosecond") text then Some Nanoseconds
    else None)))

-- the form of a year at the front of a text
unfoldable pub year_repr_at : List ℕ → Option Repr
year_repr_at text =
    if is_word_at (codes "full") text then Some Full
    else (if is_word_at (codes "century") text then Some Century
    else (if is_word_at (codes "last_two") text then Some LastTwo
    else None))

-- the form of a month at the front of a text
unfoldable pub month_repr_at : List ℕ → Option Repr
month_repr_at text =
    if is_word_at (codes "numerical") text then Some Numerical
    else (if is_word_at (codes "long") text then Some Long
    else (if is_word_at (codes "short") text then Some Short
    else None))

-- the form of a day of the week at the front of a text
unfoldable pub weekday_repr_at : List ℕ → Option Repr
weekday_repr_at text =
    if is_word_at (codes "short") text then Some Short
    else (if is_word_at (codes "long") text then Some Long
    else (if is_word_at (codes "sunday") text then Some Sunday
    else (if is_word_at (codes "monday") text then Some Monday
    else None)))

-- the rule for weeks at the front of a text
unfoldable pub week_repr_at : List ℕ → Option Repr
week_repr_at text =
    if is_word_at (codes "iso") text then Some Iso
    else (if is_word_at (codes "sunday") text then Some Sunday
    else (if is_word_at (codes "monday") text then Some Monday
    else None))

-- the clock of hours at the front of a text
unfoldable pub hour_repr_at : List ℕ → Option Repr
hour_repr_at text =
    if is_word_at (codes "24") text then Some TwentyFour
    else (if is_word_at (codes "12") text then Some Twelve
    else None)

-- the count that was found, or else the other
abbrev pub or_digits : Option SubsecondDigits → Option SubsecondDigits → Option SubsecondDigits
or_digits (Some digits) others = Some digits
or_digits None others = others

-- the count of digits at the front of a text
unfoldable pub subsecond_digits_at : List ℕ → Option SubsecondDigits
subsecond_digits_at text = or_digits (few_digits_at text) (many_digits_at text)

-- digits up to the end of the word, after those of a number: a number of 1 to 65,535
unfoldable pub count_from : ℕ → List ℕ → Option ℕ
count_from n [] = if n == 0 then None else Some n
count_from n (first ∷ text) =
    if nat_lt first 48 || nat_lt 57 first
    then (if n == 0 || not (ends_word (first ∷ text)) then None else Some n)
    else (if nat_lt 65_535 (n * 10 + (first - 48)) then None else count_from (n * 10 + (first - 48)) text)

-- The modifiers of components, as numbers.
use Rattle.std.specs.Prelude.{ℕ, ◌==◌, Option, Some, None, if◌then◌else◌}
use Rattle.format_descriptions.specs.declared.modifiers.Padding.{Padding}
use Rattle.format_descriptions.specs.declared.modifiers.Padding.TheVariants as padding
use Rattle.format_descriptions.specs.declared.modifiers.Sign.{Sign}
use Rattle.format_descriptions.specs.declared.modifiers.Sign.TheVariants as sign
use Rattle.format_descriptions.specs.declared.modifiers.NameForm.{NameForm}
use Rattle.format_descriptions.specs.declared.modifiers.NameForm.TheVariants as name_form
use Rattle.format_descriptions.specs.declared.modifiers.Case.{Case}
use Rattle.format_descriptions.specs.declared.modifiers.Case.TheVariants as case
use Rattle.format_descriptions.specs.declared.modifiers.ReadCase.{ReadCase}
use Rattle.format_descriptions.specs.declared.modifiers.ReadCase.TheVariants as read_case
use Rattle.format_descriptions.specs.declared.modifiers.YearBase.{YearBase}
use Rattle.format_descriptions.specs.declared.modifiers.YearBase.TheVariants as year_base
use Rattle.format_descriptions.specs.declared.modifiers.YearRange.{YearRange}
use Rattle.format_descriptions.specs.declared.modifiers.YearRange.TheVariants as year_range
use Rattle.format_descriptions.specs.declared.modifiers.WeekRule.{WeekRule}
use Rattle.format_descriptions.specs.declared.modifiers.WeekRule.TheVariants as week_rule
use Rattle.format_descriptions.specs.declared.modifiers.WeekStart.{WeekStart}
use Rattle.format_descriptions.specs.declared.modifiers.WeekStart.TheVariants as week_start
use Rattle.format_descriptions.specs.declared.modifiers.WeekdayCount.{WeekdayCount}
use Rattle.format_descriptions.specs.declared.modifiers.WeekdayCount.TheVariants as weekday_count
use Rattle.format_descriptions.specs.declared.modifiers.UnixPrecision.{UnixPrecision}
use Rattle.format_descriptions.specs.declared.modifiers.UnixPrecision.TheVariants as unix_precision
use Rattle.format_descriptions.specs.declared.modifiers.UtcWord.{UtcWord}
use Rattle.format_descriptions.specs.declared.modifiers.UtcWord.TheVariants as utc_word
use Rattle.format_descriptions.specs.declared.modifiers.SubsecondDigits.{SubsecondDigits}
use Rattle.format_descriptions.specs.declared.modifiers.SubsecondDigits.TheVariants as subsecond_digits

-- the filler of a number
abbrev pub number_of_padding : Padding → ℕ
number_of_padding padding.Zero = 0
number_of_padding padding.Space = 1
number_of_padding padding.Bare = 2

abbrev pub padding_numbered : ℕ → Option Padding
padding_numbered number =
    if number == 0 then Some padding.Zero
    else (if number == 1 then Some padding.Space
    else (if number == 2 then Some padding.Bare
    else None))

-- whether a number has a sign
abbrev pub number_of_sign : Sign → ℕ
number_of_sign sign.Automatic = 0
number_of_sign sign.Mandatory = 1

abbrev pub sign_numbered : ℕ → Option Sign
sign_numbered number =
    if number == 0 then Some sign.Automatic
    else (if number == 1 then Some sign.Mandatory
    else None)

-- how much of a name is written
abbrev pub number_of_name_form : NameForm → ℕ
number_of_name_form name_form.Long = 0
number_of_name_form name_form.Short = 1

abbrev pub name_form_numbered : ℕ → Option NameForm
name_form_numbered number =
    if number == 0 then Some name_form.Long
    else (if number == 1 then Some name_form.Short
    else None)

-- the case of the letters
abbrev pub number_of_case : Case → ℕ
number_of_case case.Upper = 0
number_of_case case.Lower = 1

abbrev pub case_numbered : ℕ → Option Case
case_numbered number =
    if number == 0 then Some case.Upper
    else (if number == 1 then Some case.Lower
    else None)

-- the case that is read
abbrev pub number_of_read_case : ReadCase → ℕ
number_of_read_case read_case.Same = 0
number_of_read_case read_case.Any = 1

abbrev pub read_case_numbered : ℕ → Option ReadCase
read_case_numbered number =
    if number == 0 then Some read_case.Same
    else (if number == 1 then Some read_case.Any
    else None)

-- which year is meant
abbrev pub number_of_year_base : YearBase → ℕ
number_of_year_base year_base.Calendar = 0
number_of_year_base year_base.IsoWeek = 1

abbrev pub year_base_numbered : ℕ → Option YearBase
year_base_numbered number =
    if number == 0 then Some year_base.Calendar
    else (if number == 1 then Some year_base.IsoWeek
    else None)

-- how many digits of a year are read
abbrev pub number_of_year_range : YearRange → ℕ
number_of_year_range year_range.Standard = 0
number_of_year_range year_range.Extended = 1

abbrev pub year_range_numbered : ℕ → Option YearRange
year_range_numbered number =
    if number == 0 then Some year_range.Standard
    else (if number == 1 then Some year_range.Extended
    else None)

-- how weeks are counted
abbrev pub number_of_week_rule : WeekRule → ℕ
number_of_week_rule week_rule.Iso = 0
number_of_week_rule week_rule.Sunday = 1
number_of_week_rule week_rule.Monday = 2

abbrev pub week_rule_numbered : ℕ → Option WeekRule
week_rule_numbered number =
    if number == 0 then Some week_rule.Iso
    else (if number == 1 then Some week_rule.Sunday
    else (if number == 2 then Some week_rule.Monday
    else None))

-- the first day of a week
abbrev pub number_of_week_start : WeekStart → ℕ
number_of_week_start week_start.Sunday = 0
number_of_week_start week_start.Monday = 1

abbrev pub week_start_numbered : ℕ → Option WeekStart
week_start_numbered number =
    if number == 0 then Some week_start.Sunday
    else (if number == 1 then Some week_start.Monday
    else None)

-- the number of that day
abbrev pub number_of_weekday_count : WeekdayCount → ℕ
number_of_weekday_count weekday_count.FromZero = 0
number_of_weekday_count weekday_count.FromOne = 1

abbrev pub weekday_count_numbered : ℕ → Option WeekdayCount
weekday_count_numbered number =
    if number == 0 then Some weekday_count.FromZero
    else (if number == 1 then Some weekday_count.FromOne
    else None)

-- the unit of a Unix timestamp
abbrev pub number_of_unix_precision : UnixPrecision → ℕ
number_of_unix_precision unix_precision.Seconds = 0
number_of_unix_precision unix_precision.Milliseconds = 1
number_of_unix_precision unix_precision.Microseconds = 2
number_of_unix_precision unix_precision.Nanoseconds = 3

abbrev pub unix_precision_numbered : ℕ → Option UnixPrecision
unix_precision_numbered number =
    if number == 0 then Some unix_precision.Seconds
    else (if number == 1 then Some unix_precision.Milliseconds
    else (if number == 2 then Some unix_precision.Microseconds
    else (if number == 3 then Some unix_precision.Nanoseconds
    else None)))

-- a word for UTC
abbrev pub number_of_utc_word : UtcWord → ℕ
number_of_utc_word utc_word.Utc = 0
number_of_utc_word utc_word.Gmt = 1
number_of_utc_word utc_word.Zulu = 2

abbrev pub utc_word_numbered : ℕ → Option UtcWord
utc_word_numbered number =
    if number == 0 then Some utc_word.Utc
    else (if number == 1 then Some utc_word.Gmt
    else (if number == 2 then Some utc_word.Zulu
    else None))

-- how many digits of a fraction are written
abbrev pub number_of_subsecond_digits : SubsecondDigits → ℕ
number_of_subsecond_digits subsecond_digits.OneOrMore = 0
number_of_subsecond_digits subsecond_digits.One = 1
number_of_subsecond_digits subsecond_digits.Two = 2
number_of_subsecond_digits subsecond_digits.Three = 3
number_of_subsecond_digits subsecond_digits.Four = 4
number_of_subsecond_digits subsecond_digits.Five = 5
number_of_subsecond_digits subsecond_digits.Six = 6
number_of_subsecond_digits subsecond_digits.Seven = 7
number_of_subsecond_digits subsecond_digits.Eight = 8
number_of_subsecond_digits subsecond_digits.Nine = 9

abbrev pub subsecond_digits_numbered : ℕ → Option SubsecondDigits
subsecond_digits_numbered number =
    if number == 0 then Some subsecond_digits.OneOrMore
    else (if number == 1 then Some subsecond_digits.One
    else (if number == 2 then Some subsecond_digits.Two
    else (if number == 3 then Some subsecond_digits.Three
    else (if number == 4 then Some subsecond_digits.Four
    else (if number == 5 then Some subsecond_digits.Five
    else (if number == 6 then Some subsecond_digits.Six
    else (if number == 7 then Some subsecond_digits.Seven
    else (if number == 8 then Some subsecond_digits.Eight
    else (if number == 9 then Some subsecond_digits.Nine
    else None)))))))))

-- The numbers, the words and the tests of modifiers.
use Rattle.std.specs.Prelude.{ℕ, Bool, true, false, List, codes}
use Rattle.format_descriptions.specs.declared.modifiers.Padding.{Padding}
use Rattle.format_descriptions.specs.declared.modifiers.Padding.TheVariants.{Zero, Space, Bare}
use Rattle.format_descriptions.specs.declared.modifiers.Sign.{Sign}
use Rattle.format_descriptions.specs.declared.modifiers.Sign.TheVariants.{Automatic, Mandatory}
use Rattle.format_descriptions.specs.declared.modifiers.SubsecondDigits.{SubsecondDigits}
use Rattle.format_descriptions.specs.declared.modifiers.SubsecondDigits.TheVariants.{OneOrMore, One, Two, Three, Four, Five, Six, Seven, Eight, Nine}
use Rattle.format_descriptions.specs.declared.modifiers.ReadCase.{ReadCase}
use Rattle.format_descriptions.specs.declared.modifiers.ReadCase.TheVariants.{Same, Any}
use Rattle.format_descriptions.specs.declared.modifiers.UnixPrecision.{UnixPrecision}
use Rattle.format_descriptions.specs.declared.modifiers.UnixPrecision.TheVariants.{Seconds, Milliseconds, Microseconds, Nanoseconds}
use Rattle.format_descriptions.specs.declared.modifiers.UtcWord.{UtcWord}
use Rattle.format_descriptions.specs.declared.modifiers.UtcWord.TheVariants.{Utc, Gmt, Zulu}
use Rattle.format_descriptions.specs.declared.modifiers.WeekStart.{WeekStart}
use Rattle.format_descriptions.specs.declared.modifiers.WeekStart.TheVariants.{Sunday, Monday}
use Rattle.format_descriptions.specs.declared.modifiers.WeekdayCount.{WeekdayCount}
use Rattle.format_descriptions.specs.declared.modifiers.WeekdayCount.TheVariants.{FromZero, FromOne}
use Rattle.format_descriptions.specs.declared.modifiers.YearRange.{YearRange}
use Rattle.format_descriptions.specs.declared.modifiers.YearRange.TheVariants.{Standard, Extended}
use Rattle.format_descriptions.specs.declared.modifiers.YearBase.{YearBase}
use Rattle.format_descriptions.specs.declared.modifiers.YearBase.TheVariants.{Calendar, IsoWeek}
use Rattle.format_descriptions.specs.declared.component.Component.{Component}
use Rattle.format_descriptions.specs.declared.component.Component.TheVariants.{UnixTimestamp, OffsetWord, YearSince, HourFraction, MinuteFraction}

-- a number has a sign also where it needs none
abbrev pub is_mandatory : Sign → Bool
is_mandatory Automatic = false
is_mandatory Mandatory = true

-- the padding brings a number to its width
abbrev pub is_padded : Padding → Bool
is_padded Zero = true
is_padded Space = true
is_padded Bare = false

-- the number of digits of a fraction, or 0 for as many as it needs
abbrev pub digit_count : SubsecondDigits → ℕ
digit_count OneOrMore = 0
digit_count One = 1
digit_count Two = 2
digit_count Three = 3
digit_count Four = 4
digit_count Five = 5
digit_count Six = 6
digit_count Seven = 7
digit_count Eight = 8
digit_count Nine = 9

-- a year has up to six digits after a sign
abbrev pub is_extended : YearRange → Bool
is_extended Standard = false
is_extended Extended = true

-- small letters and capitals are read alike
abbrev pub reads_any_case : ReadCase → Bool
reads_any_case Same = false
reads_any_case Any = true

-- the most digits of a Unix timestamp
abbrev pub unix_digits : UnixPrecision → ℕ
unix_digits Seconds = 14
unix_digits Milliseconds = 17
unix_digits Microseconds = 20
unix_digits Nanoseconds = 23

-- the first day of a week by its number, 0 for Monday
abbrev pub first_weekday : WeekStart → ℕ
first_weekday Sunday = 6
first_weekday Monday = 0

-- the number of the first day of a week
abbrev pub first_number : WeekdayCount → ℕ
first_number FromZero = 0
first_number FromOne = 1

-- the year is that of the calendar
abbrev pub is_calendar : YearBase → Bool
is_calendar Calendar = true
is_calendar IsoWeek = false

-- a word for UTC
abbrev pub utc_word : UtcWord → List ℕ
utc_word Utc = codes "UTC"
utc_word Gmt = codes "GMT"
utc_word Zulu = codes "Z"

-- the component has a text for some values alone
abbrev pub is_partial : Component → Bool
is_partial (OffsetWord word case) = true
is_partial (YearSince first) = true
is_partial component = false

-- the number of the component can be large: it is a Unix timestamp, or nanoseconds of an hour or of a minute
abbrev pub has_large_number : Component → Bool
has_large_number (UnixTimestamp precision sign) = true
has_large_number (HourFraction digits) = true
has_large_number (MinuteFraction digits) = true
has_large_number component = false

-- The texts of modifiers in descriptions: a default has none, and each other value has a space, its name, a colon and the value.
use Rattle.std.specs.Prelude.{ℕ, List, [], codes}
use Rattle.format_descriptions.specs.declared.modifiers.Padding.{Padding}
use Rattle.format_descriptions.specs.declared.modifiers.Padding.TheVariants.{Zero, Space, Bare}
use Rattle.format_descriptions.specs.declared.modifiers.Sign.{Sign}
use Rattle.format_descriptions.specs.declared.modifiers.Sign.TheVariants.{Automatic, Mandatory}
use Rattle.format_descriptions.specs.declared.modifiers.Case.{Case}
use Rattle.format_descriptions.specs.declared.modifiers.Case.TheVariants.{Upper, Lower}
use Rattle.format_descriptions.specs.declared.modifiers.ReadCase.{ReadCase}
use Rattle.format_descriptions.specs.declared.modifiers.ReadCase.TheVariants.{Same, Any}
use Rattle.format_descriptions.specs.declared.modifiers.NameForm.{NameForm}
use Rattle.format_descriptions.specs.declared.modifiers.NameForm.TheVariants.{Long, Short}
use Rattle.format_descriptions.specs.declared.modifiers.WeekRule.{WeekRule}
use Rattle.format_descriptions.specs.declared.modifiers.WeekRule.TheVariants.{Iso, Sunday, Monday}
use Rattle.format_descriptions.specs.declared.modifiers.WeekStart.{WeekStart}
use Rattle.format_descriptions.specs.declared.modifiers.WeekStart.TheVariants.{Sunday as FromSunday, Monday as FromMonday}
use Rattle.format_descriptions.specs.declared.modifiers.WeekdayCount.{WeekdayCount}
use Rattle.format_descriptions.specs.declared.modifiers.WeekdayCount.TheVariants.{FromZero, FromOne}
use Rattle.format_descriptions.specs.declared.modifiers.YearBase.{YearBase}
use Rattle.format_descriptions.specs.declared.modifiers.YearBase.TheVariants.{Calendar, IsoWeek}
use Rattle.format_descriptions.specs.declared.modifiers.YearRange.{YearRange}
use Rattle.format_descriptions.specs.declared.modifiers.YearRange.TheVariants.{Standard, Extended}
use Rattle.format_descriptions.specs.declared.modifiers.SubsecondDigits.{SubsecondDigits}
use Rattle.format_descriptions.specs.declared.modifiers.SubsecondDigits.TheVariants.{OneOrMore, One, Two, Three, Four, Five, Six, Seven, Eight, Nine}
use Rattle.format_descriptions.specs.declared.modifiers.UnixPrecision.{UnixPrecision}
use Rattle.format_descriptions.specs.declared.modifiers.UnixPrecision.TheVariants.{Seconds, Milliseconds, Microseconds, Nanoseconds}

-- the modifier `padding`
abbrev pub padding_modifier : Padding → List ℕ
padding_modifier Zero = []
padding_modifier Space = codes " padding:space"
padding_modifier Bare = codes " padding:none"

-- the modifier `sign`
abbrev pub sign_modifier : Sign → List ℕ
sign_modifier Automatic = []
sign_modifier Mandatory = codes " sign:mandatory"

-- the modifier `case`
abbrev pub case_modifier : Case → List ℕ
case_modifier Upper = []
case_modifier Lower = codes " case:lower"

-- the modifier `case_sensitive`
abbrev pub read_case_modifier : ReadCase → List ℕ
read_case_modifier Same = []
read_case_modifier Any = codes " case_sensitive:false"

-- the modifier `one_indexed`
abbrev pub count_modifier : WeekdayCount → List ℕ
count_modifier FromOne = []
count_modifier FromZero = codes " one_indexed:false"

-- the modifier `base`
abbrev pub base_modifier : YearBase → List ℕ
base_modifier Calendar = []
base_modifier IsoWeek = codes " base:iso_week"

-- the modifier `range`
abbrev pub range_modifier : YearRange → List ℕ
range_modifier Extended = []
range_modifier Standard = codes " range:standard"

-- the modifier `digits`
abbrev pub digits_modifier : SubsecondDigits → List ℕ
digits_modifier OneOrMore = []
digits_modifier One = codes " digits:1"
digits_modifier Two = codes " digits:2"
digits_modifier Three = codes " digits:3"
digits_modifier Four = codes " digits:4"
digits_modifier Five = codes " digits:5"
digits_modifier Six = codes " digits:6"
digits_modifier Seven = codes " digits:7"
digits_modifier Eight = codes " digits:8"
digits_modifier Nine = codes " digits:9"

-- the modifier `precision`
abbrev pub precision_modifier : UnixPrecision → List ℕ
precision_modifier Seconds = []
precision_modifier Milliseconds = codes " precision:millisecond"
precision_modifier Microseconds = codes " precision:microsecond"
precision_modifier Nanoseconds = codes " precision:nanosecond"

-- the modifier `repr` of the name of a month, which is a number by default
abbrev pub month_modifier : NameForm → List ℕ
month_modifier Long = codes " repr:long"
month_modifier Short = codes " repr:short"

-- the modifier `repr` of the name of a day of the week
abbrev pub weekday_modifier : NameForm → List ℕ
weekday_modifier Long = []
weekday_modifier Short = codes " repr:short"

-- the modifier `repr` of the number of a day of the week
abbrev pub start_modifier : WeekStart → List ℕ
start_modifier FromSunday = codes " repr:sunday"
start_modifier FromMonday = codes " repr:monday"

-- the modifier `repr` of the number of a week
abbrev pub rule_modifier : WeekRule → List ℕ
rule_modifier Iso = []
rule_modifier Sunday = codes " repr:sunday"
rule_modifier Monday = codes " repr:monday"

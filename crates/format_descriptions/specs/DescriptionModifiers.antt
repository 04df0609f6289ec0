-- The modifiers of a component.
use Rattle.std.specs.Prelude.{ℕ, List, length, codes, Bool, true, false, if◌then◌else◌, Option, Some, None, Result, Ok, Err}
use Rattle.rfc3339.specs.Reading.{◌>>=◌}
use Rattle.format_descriptions.specs.DescriptionWords.{name_rest}
use Rattle.format_descriptions.specs.DescriptionValues.{padding_at, sign_rule_at, case_at, read_case_at, first_number_at, base_at, range_at}
use Rattle.format_descriptions.specs.DescriptionValues.{subsecond_digits_at, precision_at, count_from}
use Rattle.format_descriptions.specs.DescriptionValues.{year_repr_at, month_repr_at, weekday_repr_at, week_repr_at, hour_repr_at}
use Rattle.format_descriptions.specs.declared.description_refusal.DescriptionFault.{DescriptionFault}
use Rattle.format_descriptions.specs.declared.description_refusal.DescriptionFault.TheVariants.{UnknownModifier, WrongValue}
use Rattle.format_descriptions.specs.declared.description_names.Name.{Name}
use Rattle.format_descriptions.specs.declared.description_names.Name.TheVariants.{Year, Month, Day, Ordinal, Weekday, WeekNumber, Hour, Minute, Period}
use Rattle.format_descriptions.specs.declared.description_names.Name.TheVariants.{Second, Subsecond, OffsetHour, OffsetMinute, OffsetSecond}
use Rattle.format_descriptions.specs.declared.description_names.Name.TheVariants.{UnixTimestamp, Ignore, End}
use Rattle.format_descriptions.specs.declared.description_modifiers.Key.{Key}
use Rattle.format_descriptions.specs.declared.description_modifiers.Key.TheVariants.{Padding, Sign, Repr, Case, CaseSensitive, OneIndexed}
use Rattle.format_descriptions.specs.declared.description_modifiers.Key.TheVariants.{Base, Range, Digits, Precision, Count}
use Rattle.format_descriptions.specs.declared.description_modifiers.Modifiers.{Modifiers}
use Rattle.format_descriptions.specs.declared.description_values.Repr.{Repr as Form}
use Rattle.format_descriptions.specs.declared.modifiers.Padding.TheVariants.{Zero}
use Rattle.format_descriptions.specs.declared.modifiers.Sign.TheVariants.{Automatic}
use Rattle.format_descriptions.specs.declared.modifiers.Case.TheVariants.{Upper}
use Rattle.format_descriptions.specs.declared.modifiers.ReadCase.TheVariants.{Same}
use Rattle.format_descriptions.specs.declared.modifiers.WeekdayCount.TheVariants.{FromOne}
use Rattle.format_descriptions.specs.declared.modifiers.YearBase.TheVariants.{Calendar}
use Rattle.format_descriptions.specs.declared.modifiers.YearRange.TheVariants.{Extended}
use Rattle.format_descriptions.specs.declared.modifiers.SubsecondDigits.TheVariants.{OneOrMore}
use Rattle.format_descriptions.specs.declared.modifiers.UnixPrecision.TheVariants.{Seconds}

-- a modifier whose word was found, with the rest of the text, or else the result of the others
abbrev pub key_or : Key → Option (List ℕ) → Option (Key × List ℕ) → Option (Key × List ℕ)
key_or key None others = others
key_or key (Some value) others = Some (key, value)

-- the modifier of many components at the front of a text, and its value
unfoldable pub common_key_at : List ℕ → Option (Key × List ℕ)
common_key_at text =
    key_or Padding (name_rest (codes "padding:") text)
    (key_or Sign (name_rest (codes "sign:") text)
    (key_or Repr (name_rest (codes "repr:") text) None))

-- the modifier of a name or a half of the day at the front of a text, and its value
unfoldable pub word_key_at : List ℕ → Option (Key × List ℕ)
word_key_at text =
    key_or Case (name_rest (codes "case:") text)
    (key_or CaseSensitive (name_rest (codes "case_sensitive:") text)
    (key_or OneIndexed (name_rest (codes "one_indexed:") text) None))

-- the modifier of one component at the front of a text, and its value
unfoldable pub own_key_at : List ℕ → Option (Key × List ℕ)
own_key_at text =
    key_or Base (name_rest (codes "base:") text)
    (key_or Range (name_rest (codes "range:") text)
    (key_or Digits (name_rest (codes "digits:") text)
    (key_or Precision (name_rest (codes "precision:") text)
    (key_or Count (name_rest (codes "count:") text) None))))

-- the modifier that was found, or else the other
abbrev pub either_key : Option (Key × List ℕ) → Option (Key × List ℕ) → Option (Key × List ℕ)
either_key (Some found) others = Some found
either_key None others = others

-- the modifier at the front of a text, and its value
unfoldable pub key_at : List ℕ → Option (Key × List ℕ)
key_at text = either_key (common_key_at text) (either_key (word_key_at text) (own_key_at text))

-- whether a component takes the modifier `padding`
abbrev pub takes_padding : Name → Bool
takes_padding Year = true
takes_padding Month = true
takes_padding Day = true
takes_padding Ordinal = true
takes_padding Weekday = false
takes_padding WeekNumber = true
takes_padding Hour = true
takes_padding Minute = true
takes_padding Period = false
takes_padding Second = true
takes_padding Subsecond = false
takes_padding OffsetHour = true
takes_padding OffsetMinute = true
takes_padding OffsetSecond = true
takes_padding UnixTimestamp = false
takes_padding Ignore = false
takes_padding End = false

-- whether a component takes the modifier `sign`
abbrev pub takes_sign : Name → Bool
takes_sign Year = true
takes_sign Month = false
takes_sign Day = false
takes_sign Ordinal = false
takes_sign Weekday = false
takes_sign WeekNumber = false
takes_sign Hour = false
takes_sign Minute = false
takes_sign Period = false
takes_sign Second = false
takes_sign Subsecond = false
takes_sign OffsetHour = true
takes_sign OffsetMinute = false
takes_sign OffsetSecond = false
takes_sign UnixTimestamp = true
takes_sign Ignore = false
takes_sign End = false

-- whether a component takes the modifier `repr`
abbrev pub takes_repr : Name → Bool
takes_repr Year = true
takes_repr Month = true
takes_repr Day = false
takes_repr Ordinal = false
takes_repr Weekday = true
takes_repr WeekNumber = true
takes_repr Hour = true
takes_repr Minute = false
takes_repr Period = false
takes_repr Second = false
takes_repr Subsecond = false
takes_repr OffsetHour = false
takes_repr OffsetMinute = false
takes_repr OffsetSecond = false
takes_repr UnixTimestamp = false
takes_repr Ignore = false
takes_repr End = false

-- whether a component takes the modifier `case`
abbrev pub takes_case : Name → Bool
takes_case Year = false
takes_case Month = false
takes_case Day = false
takes_case Ordinal = false
takes_case Weekday = false
takes_case WeekNumber = false
takes_case Hour = false
takes_case Minute = false
takes_case Period = true
takes_case Second = false
takes_case Subsecond = false
takes_case OffsetHour = false
takes_case OffsetMinute = false
takes_case OffsetSecond = false
takes_case UnixTimestamp = false
takes_case Ignore = false
takes_case End = false

-- whether a component takes the modifier `case_sensitive`
abbrev pub takes_case_sensitive : Name → Bool
takes_case_sensitive Year = false
takes_case_sensitive Month = true
takes_case_sensitive Day = false
takes_case_sensitive Ordinal = false
takes_case_sensitive Weekday = true
takes_case_sensitive WeekNumber = false
takes_case_sensitive Hour = false
takes_case_sensitive Minute = false
takes_case_sensitive Period = true
takes_case_sensitive Second = false
takes_case_sensitive Subsecond = false
takes_case_sensitive OffsetHour = false
takes_case_sensitive OffsetMinute = false
takes_case_sensitive OffsetSecond = false
takes_case_sensitive UnixTimestamp = false
takes_case_sensitive Ignore = false
takes_case_sensitive End = false

-- whether a component takes the modifier `one_indexed`
abbrev pub takes_one_indexed : Name → Bool
takes_one_indexed Year = false
takes_one_indexed Month = false
takes_one_indexed Day = false
takes_one_indexed Ordinal = false
takes_one_indexed Weekday = true
takes_one_indexed WeekNumber = false
takes_one_indexed Hour = false
takes_one_indexed Minute = false
takes_one_indexed Period = false
takes_one_indexed Second = false
takes_one_indexed Subsecond = false
takes_one_indexed OffsetHour = false
takes_one_indexed OffsetMinute = false
takes_one_indexed OffsetSecond = false
takes_one_indexed UnixTimestamp = false
takes_one_indexed Ignore = false
takes_one_indexed End = false

-- whether a component takes the modifier `base`
abbrev pub takes_base : Name → Bool
takes_base Year = true
takes_base Month = false
takes_base Day = false
takes_base Ordinal = false
takes_base Weekday = false
takes_base WeekNumber = false
takes_base Hour = false
takes_base Minute = false
takes_base Period = false
takes_base Second = false
takes_base Subsecond = false
takes_base OffsetHour = false
takes_base OffsetMinute = false
takes_base OffsetSecond = false
takes_base UnixTimestamp = false
takes_base Ignore = false
takes_base End = false

-- whether a component takes the modifier `range`
abbrev pub takes_range : Name → Bool
takes_range Year = true
takes_range Month = false
takes_range Day = false
takes_range Ordinal = false
takes_range Weekday = false
takes_range WeekNumber = false
takes_range Hour = false
takes_range Minute = false
takes_range Period = false
takes_range Second = false
takes_range Subsecond = false
takes_range OffsetHour = false
takes_range OffsetMinute = false
takes_range OffsetSecond = false
takes_range UnixTimestamp = false
takes_range Ignore = false
takes_range End = false

-- whether a component takes the modifier `digits`
abbrev pub takes_digits : Name → Bool
takes_digits Year = false
takes_digits Month = false
takes_digits Day = false
takes_digits Ordinal = false
takes_digits Weekday = false
takes_digits WeekNumber = false
takes_digits Hour = false
takes_digits Minute = false
takes_digits Period = false
takes_digits Second = false
takes_digits Subsecond = true
takes_digits OffsetHour = false
takes_digits OffsetMinute = false
takes_digits OffsetSecond = false
takes_digits UnixTimestamp = false
takes_digits Ignore = false
takes_digits End = false

-- whether a component takes the modifier `precision`
abbrev pub takes_precision : Name → Bool
takes_precision Year = false
takes_precision Month = false
takes_precision Day = false
takes_precision Ordinal = false
takes_precision Weekday = false
takes_precision WeekNumber = false
takes_precision Hour = false
takes_precision Minute = false
takes_precision Period = false
takes_precision Second = false
takes_precision Subsecond = false
takes_precision OffsetHour = false
takes_precision OffsetMinute = false
takes_precision OffsetSecond = false
takes_precision UnixTimestamp = true
takes_precision Ignore = false
takes_precision End = false

-- whether a component takes the modifier `count`
abbrev pub takes_count : Name → Bool
takes_count Year = false
takes_count Month = false
takes_count Day = false
takes_count Ordinal = false
takes_count Weekday = false
takes_count WeekNumber = false
takes_count Hour = false
takes_count Minute = false
takes_count Period = false
takes_count Second = false
takes_count Subsecond = false
takes_count OffsetHour = false
takes_count OffsetMinute = false
takes_count OffsetSecond = false
takes_count UnixTimestamp = false
takes_count Ignore = true
takes_count End = false

-- whether a component takes a modifier
unfoldable pub takes : Name → Key → Bool
takes name Padding = takes_padding name
takes name Sign = takes_sign name
takes name Repr = takes_repr name
takes name Case = takes_case name
takes name CaseSensitive = takes_case_sensitive name
takes name OneIndexed = takes_one_indexed name
takes name Base = takes_base name
takes name Range = takes_range name
takes name Digits = takes_digits name
takes name Precision = takes_precision name
takes name Count = takes_count name

-- the form of a component at the front of a text
unfoldable pub repr_at : Name → List ℕ → Option Form
repr_at Year text = year_repr_at text
repr_at Month text = month_repr_at text
repr_at Day text = None
repr_at Ordinal text = None
repr_at Weekday text = weekday_repr_at text
repr_at WeekNumber text = week_repr_at text
repr_at Hour text = hour_repr_at text
repr_at Minute text = None
repr_at Period text = None
repr_at Second text = None
repr_at Subsecond text = None
repr_at OffsetHour text = None
repr_at OffsetMinute text = None
repr_at OffsetSecond text = None
repr_at UnixTimestamp text = None
repr_at Ignore text = None
repr_at End text = None

-- the modifiers of a component that names none
abbrev pub no_modifiers : Modifiers
no_modifiers = record {
  padding = Zero;
  sign = Automatic;
  repr = None;
  case = Upper;
  read_case = Same;
  first_number = FromOne;
  base = Calendar;
  range = Extended;
  digits = OneOrMore;
  precision = Seconds;
  count = None;
}

-- the modifiers with the value of one
unfoldable pub with_value : Name → Key → List ℕ → Modifiers → Option Modifiers
with_value name Padding value m = padding_at value >>= λ v. Some (record m { padding = v })
with_value name Sign value m = sign_rule_at value >>= λ v. Some (record m { sign = v })
with_value name Repr value m = repr_at name value >>= λ v. Some (record m { repr = Some v })
with_value name Case value m = case_at value >>= λ v. Some (record m { case = v })
with_value name CaseSensitive value m = read_case_at value >>= λ v. Some (record m { read_case = v })
with_value name OneIndexed value m = first_number_at value >>= λ v. Some (record m { first_number = v })
with_value name Base value m = base_at value >>= λ v. Some (record m { base = v })
with_value name Range value m = range_at value >>= λ v. Some (record m { range = v })
with_value name Digits value m = subsecond_digits_at value >>= λ v. Some (record m { digits = v })
with_value name Precision value m = precision_at value >>= λ v. Some (record m { precision = v })
with_value name Count value m = count_from 0 value >>= λ v. Some (record m { count = Some v })

-- the modifiers with a value, or the fault if the value is invalid
abbrev pub value_or : List ℕ → Option Modifiers → Result Modifiers (DescriptionFault × ℕ)
value_or value None = Err (WrongValue, length value)
value_or value (Some m) = Ok m

-- the modifiers with a named one, or the fault: the component does not take it, or its value is invalid
abbrev pub key_given : Name → List ℕ → Modifiers → Option (Key × List ℕ) → Result Modifiers (DescriptionFault × ℕ)
key_given name text m None = Err (UnknownModifier, length text)
key_given name text m (Some found) =
    if takes name found.0 then value_or found.1 (with_value name found.0 found.1 m) else Err (UnknownModifier, length text)

-- the modifiers with that at the front of a text, or its fault and the number of bytes left there
unfoldable pub modifier_at : Name → List ℕ → Modifiers → Result Modifiers (DescriptionFault × ℕ)
modifier_at name text m = key_given name text m (key_at text)

-- Items of descriptions, as numbers that a caller keeps, and back.
use Rattle.std.specs.Prelude.{ℕ, ◌==◌, nat_lt, Option, Some, None, if◌then◌else◌}
use Rattle.std.specs.Option.{option_map}
use Rattle.rfc3339.specs.Reading.{◌>>=◌}
use Rattle.format_descriptions.specs.declared.component.Component.{Component}
use Rattle.format_descriptions.specs.declared.component.Component.TheVariants as component
use Rattle.format_descriptions.specs.declared.item.Item.{Item}
use Rattle.format_descriptions.specs.declared.item.Item.TheVariants as item
use Rattle.format_descriptions.specs.declared.modifiers.Padding.{Padding}
use Rattle.muxandu_c.specs.DescriptionModifiers.{case_numbered, name_form_numbered, number_of_case, number_of_name_form}
use Rattle.muxandu_c.specs.DescriptionModifiers.{number_of_padding, number_of_read_case, number_of_sign, number_of_subsecond_digits}
use Rattle.muxandu_c.specs.DescriptionModifiers.{number_of_unix_precision, number_of_utc_word, number_of_week_rule, number_of_week_start}
use Rattle.muxandu_c.specs.DescriptionModifiers.{number_of_weekday_count, number_of_year_base, number_of_year_range, padding_numbered}
use Rattle.muxandu_c.specs.DescriptionModifiers.{read_case_numbered, sign_numbered, subsecond_digits_numbered, unix_precision_numbered}
use Rattle.muxandu_c.specs.DescriptionModifiers.{utc_word_numbered, week_rule_numbered, week_start_numbered, weekday_count_numbered}
use Rattle.muxandu_c.specs.DescriptionModifiers.{year_base_numbered, year_range_numbered}
use Rattle.muxandu_c.specs.declared.description_items.MuxanduItem.{MuxanduItem}

-- the component of this kind that has padding alone
abbrev pub padded_component : ℕ → Padding → Option Component
padded_component kind padding =
    if kind == 5 then Some (component.Month padding)
    else (if kind == 6 then Some (component.Day padding)
    else (if kind == 7 then Some (component.Ordinal padding)
    else (if kind == 8 then Some (component.Hour padding)
    else (if kind == 9 then Some (component.Hour12 padding)
    else (if kind == 10 then Some (component.Minute padding)
    else (if kind == 11 then Some (component.Second padding)
    else (if kind == 12 then Some (component.OffsetMinute padding)
    else (if kind == 13 then Some (component.OffsetSecond padding)
    else None))))))))

abbrev pub year_component : MuxanduItem → Option Component
year_component v =
    year_base_numbered v.first >>= λ year_base. sign_numbered v.second >>= λ sign. padding_numbered v.third >>= λ padding.
    year_range_numbered v.fourth >>= λ year_range. Some (component.Year year_base sign padding year_range)

abbrev pub year_century_component : MuxanduItem → Option Component
year_century_component v =
    year_base_numbered v.first >>= λ year_base. sign_numbered v.second >>= λ sign. padding_numbered v.third >>= λ padding.
    year_range_numbered v.fourth >>= λ year_range. Some (component.YearCentury year_base sign padding year_range)

abbrev pub year_last_two_component : MuxanduItem → Option Component
year_last_two_component v =
    year_base_numbered v.first >>= λ year_base. padding_numbered v.second >>= λ padding. Some (component.YearLastTwo year_base padding)

abbrev pub month_name_component : MuxanduItem → Option Component
month_name_component v =
    name_form_numbered v.first >>= λ name_form. read_case_numbered v.second >>= λ read_case. Some (component.MonthName name_form read_case)

abbrev pub weekday_name_component : MuxanduItem → Option Component
weekday_name_component v =
    name_form_numbered v.first >>= λ name_form. read_case_numbered v.second >>= λ read_case. Some (component.WeekdayName name_form read_case)

abbrev pub weekday_number_component : MuxanduItem → Option Component
weekday_number_component v =
    week_start_numbered v.first >>= λ week_start. weekday_count_numbered v.second >>= λ weekday_count.
    Some (component.WeekdayNumber week_start weekday_count)

abbrev pub week_number_component : MuxanduItem → Option Component
week_number_component v =
    week_rule_numbered v.first >>= λ week_rule. padding_numbered v.second >>= λ padding. Some (component.WeekNumber week_rule padding)

abbrev pub period_component : MuxanduItem → Option Component
period_component v =
    case_numbered v.first >>= λ case. read_case_numbered v.second >>= λ read_case. Some (component.Period case read_case)

abbrev pub subsecond_component : MuxanduItem → Option Component
subsecond_component v =
    subsecond_digits_numbered v.first >>= λ subsecond_digits. Some (component.Subsecond subsecond_digits)

abbrev pub offset_hour_component : MuxanduItem → Option Component
offset_hour_component v =
    sign_numbered v.first >>= λ sign. padding_numbered v.second >>= λ padding. Some (component.OffsetHour sign padding)

abbrev pub unix_timestamp_component : MuxanduItem → Option Component
unix_timestamp_component v =
    unix_precision_numbered v.first >>= λ unix_precision. sign_numbered v.second >>= λ sign. Some (component.UnixTimestamp unix_precision sign)

abbrev pub ignore_component : ℕ → Option Component
ignore_component number = if nat_lt 65_535 number then None else Some (component.Ignore number)

abbrev pub ignore_weekday_component : MuxanduItem → Option Component
ignore_weekday_component v =
    name_form_numbered v.first >>= λ name_form. read_case_numbered v.second >>= λ read_case. Some (component.IgnoreWeekday name_form read_case)

abbrev pub offset_word_component : MuxanduItem → Option Component
offset_word_component v =
    utc_word_numbered v.first >>= λ utc_word. read_case_numbered v.second >>= λ read_case. Some (component.OffsetWord utc_word read_case)

abbrev pub year_since_component : ℕ → Option Component
year_since_component number = if nat_lt 65_535 number then None else Some (component.YearSince number)

abbrev pub year_six_component : MuxanduItem → Option Component
year_six_component v = year_base_numbered v.first >>= λ year_base. Some (component.YearSix year_base)

abbrev pub hour_fraction_component : MuxanduItem → Option Component
hour_fraction_component v = subsecond_digits_numbered v.first >>= λ subsecond_digits. Some (component.HourFraction subsecond_digits)

abbrev pub minute_fraction_component : MuxanduItem → Option Component
minute_fraction_component v = subsecond_digits_numbered v.first >>= λ subsecond_digits. Some (component.MinuteFraction subsecond_digits)

-- the component of another kind
abbrev pub other_component : MuxanduItem → Option Component
other_component v =
    if v.kind == 14 then year_component v
    else (if v.kind == 15 then year_century_component v
    else (if v.kind == 16 then year_last_two_component v
    else (if v.kind == 17 then month_name_component v
    else (if v.kind == 18 then weekday_name_component v
    else (if v.kind == 19 then weekday_number_component v
    else (if v.kind == 20 then week_number_component v
    else (if v.kind == 21 then period_component v
    else (if v.kind == 22 then subsecond_component v
    else (if v.kind == 23 then offset_hour_component v
    else (if v.kind == 24 then unix_timestamp_component v
    else (if v.kind == 25 then ignore_component v.number
    else (if v.kind == 26 then Some component.End
    else (if v.kind == 27 then ignore_weekday_component v
    else (if v.kind == 28 then Some component.IgnoreDigits
    else (if v.kind == 29 then offset_word_component v
    else (if v.kind == 30 then year_since_component v.number
    else (if v.kind == 31 then year_six_component v
    else (if v.kind == 32 then hour_fraction_component v
    else (if v.kind == 33 then minute_fraction_component v
    else None)))))))))))))))))))

-- the component of these numbers
abbrev pub component_of : MuxanduItem → Option Component
component_of v =
    if nat_lt v.kind 14 then (padding_numbered v.first >>= λ padding. padded_component v.kind padding) else other_component v

abbrev pub byte_of : ℕ → Option Item
byte_of number = if nat_lt 255 number then None else Some (item.Byte number)

-- the item of these numbers
abbrev pub item_of : MuxanduItem → Option Item
item_of v =
    if v.kind == 1 then byte_of v.number
    else (if v.kind == 2 then Some (item.Optional v.number)
    else (if v.kind == 3 then Some (item.First v.number)
    else (if v.kind == 4 then Some (item.Or v.number)
    else option_map item.Part (component_of v))))

-- ---- the numbers of an item

abbrev pub four_numbers : ℕ → ℕ → ℕ → ℕ → ℕ → MuxanduItem
four_numbers kind a b c d = record { kind = kind; first = a; second = b; third = c; fourth = d; number = 0 }

abbrev pub two_numbers : ℕ → ℕ → ℕ → MuxanduItem
two_numbers kind a b = four_numbers kind a b 0 0

abbrev pub padded_numbers : ℕ → Padding → MuxanduItem
padded_numbers kind padding = two_numbers kind (number_of_padding padding) 0

abbrev pub plain_numbers : ℕ → ℕ → MuxanduItem
plain_numbers kind number = record { kind = kind; first = 0; second = 0; third = 0; fourth = 0; number = number }

abbrev pub numbers_of_component : Component → MuxanduItem
numbers_of_component (component.Month padding) = padded_numbers 5 padding
numbers_of_component (component.Day padding) = padded_numbers 6 padding
numbers_of_component (component.Ordinal padding) = padded_numbers 7 padding
numbers_of_component (component.Hour padding) = padded_numbers 8 padding
numbers_of_component (component.Hour12 padding) = padded_numbers 9 padding
numbers_of_component (component.Minute padding) = padded_numbers 10 padding
numbers_of_component (component.Second padding) = padded_numbers 11 padding
numbers_of_component (component.OffsetMinute padding) = padded_numbers 12 padding
numbers_of_component (component.OffsetSecond padding) = padded_numbers 13 padding
numbers_of_component (component.Year year_base sign padding year_range) =
    four_numbers 14 (number_of_year_base year_base) (number_of_sign sign) (number_of_padding padding) (number_of_year_range year_range)
numbers_of_component (component.YearCentury year_base sign padding year_range) =
    four_numbers 15 (number_of_year_base year_base) (number_of_sign sign) (number_of_padding padding) (number_of_year_range year_range)
numbers_of_component (component.YearLastTwo year_base padding) = two_numbers 16 (number_of_year_base year_base) (number_of_padding padding)
numbers_of_component (component.MonthName name_form read_case) = two_numbers 17 (number_of_name_form name_form) (number_of_read_case read_case)
numbers_of_component (component.WeekdayName name_form read_case) = two_numbers 18 (number_of_name_form name_form) (number_of_read_case read_case)
numbers_of_component (component.WeekdayNumber week_start weekday_count) =
    two_numbers 19 (number_of_week_start week_start) (number_of_weekday_count weekday_count)
numbers_of_component (component.WeekNumber week_rule padding) = two_numbers 20 (number_of_week_rule week_rule) (number_of_padding padding)
numbers_of_component (component.Period case read_case) = two_numbers 21 (number_of_case case) (number_of_read_case read_case)
numbers_of_component (component.Subsecond subsecond_digits) = two_numbers 22 (number_of_subsecond_digits subsecond_digits) 0
numbers_of_component (component.OffsetHour sign padding) = two_numbers 23 (number_of_sign sign) (number_of_padding padding)
numbers_of_component (component.UnixTimestamp unix_precision sign) =
    two_numbers 24 (number_of_unix_precision unix_precision) (number_of_sign sign)
numbers_of_component (component.Ignore number) = plain_numbers 25 number
numbers_of_component component.End = plain_numbers 26 0
numbers_of_component (component.IgnoreWeekday name_form read_case) = two_numbers 27 (number_of_name_form name_form) (number_of_read_case read_case)
numbers_of_component component.IgnoreDigits = plain_numbers 28 0
numbers_of_component (component.OffsetWord utc_word read_case) = two_numbers 29 (number_of_utc_word utc_word) (number_of_read_case read_case)
numbers_of_component (component.YearSince number) = plain_numbers 30 number
numbers_of_component (component.YearSix year_base) = two_numbers 31 (number_of_year_base year_base) 0
numbers_of_component (component.HourFraction digits) = two_numbers 32 (number_of_subsecond_digits digits) 0
numbers_of_component (component.MinuteFraction digits) = two_numbers 33 (number_of_subsecond_digits digits) 0

abbrev pub numbers_of_item : Item → MuxanduItem
numbers_of_item (item.Byte byte) = plain_numbers 1 byte
numbers_of_item (item.Optional size) = plain_numbers 2 size
numbers_of_item (item.First size) = plain_numbers 3 size
numbers_of_item (item.Or size) = plain_numbers 4 size
numbers_of_item (item.Part it) = numbers_of_component it

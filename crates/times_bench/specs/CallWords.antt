-- The call of a word of a run: a name, and after `=` the arguments with `,` between.
use Rattle.std.specs.Prelude.{ℕ, ◌&&◌, ◌||◌, List, [], ◌∷◌, ℤ, pos, neg_ℤ, int_lt, codes, if◌then◌else◌, Option, Some, None}
use Rattle.std.specs.Option.{option_map, option_and_then, option_or}
use Rattle.std.specs.Result.{result_ok}
use Rattle.std.specs.Str.{bytes_eq}
use Rattle.calendar_values.specs.Durations.{duration_of_parts}
use Rattle.calendar_values.specs.Month.{month_number}
use Rattle.calendar_values.specs.Range.{is_outside}
use Rattle.calendar_values.specs.Constructors.{calendar_date, clock_time_nano}
use Rattle.stamp_times.specs.Numbered.{month_numbered}
use Rattle.calendar_values.specs.declared.month.Month.{Month}
use Rattle.stamp_times.specs.declared.runs.calls.DateRead.{DateRead}
use Rattle.stamp_times.specs.declared.runs.calls.DateRead.TheVariants as date_read
use Rattle.stamp_times.specs.declared.runs.calls.ClockRead.{ClockRead}
use Rattle.stamp_times.specs.declared.runs.calls.ClockRead.TheVariants as clock_read
use Rattle.stamp_times.specs.declared.runs.calls.Shift.{Shift}
use Rattle.stamp_times.specs.declared.runs.calls.Shift.TheVariants as shift
use Rattle.stamp_times.specs.declared.runs.calls.Replace.{Replace}
use Rattle.stamp_times.specs.declared.runs.calls.Replace.TheVariants as replacing
use Rattle.stamp_times.specs.declared.runs.calls.Call.{Call}
use Rattle.stamp_times.specs.declared.runs.calls.Call.TheVariants as call
use Rattle.times_bench.specs.Numbers.{i64_of, i32_of, u32_of, u16_of, u8_of}
use Rattle.times_bench.specs.StepWords.{parse_offset}
use Rattle.times_bench.specs.Words.{cut_at, arguments_of, exactly_one, exactly_two, exactly_three, exactly_four}

-- the value next to a name
abbrev pub entry_of : {A : Type 0} → List (List ℕ × A) → List ℕ → Option A
entry_of [] name = None
entry_of (first ∷ others) name = if bytes_eq name first.0 then Some first.1 else entry_of others name

-- the reads of the date, by their names
unfoldable pub date_reads : List (List ℕ × DateRead)
date_reads =
    (codes "date", date_read.Date) ∷
    (codes "year", date_read.Year) ∷
    (codes "month", date_read.Month) ∷
    (codes "day", date_read.Day) ∷
    (codes "ordinal", date_read.Ordinal) ∷
    (codes "iso_week", date_read.IsoWeek) ∷
    (codes "sunday_based_week", date_read.SundayWeek) ∷
    (codes "monday_based_week", date_read.MondayWeek) ∷
    (codes "to_calendar_date", date_read.CalendarDate) ∷
    (codes "to_ordinal_date", date_read.OrdinalDate) ∷
    (codes "to_iso_week_date", date_read.IsoWeekDate) ∷
    (codes "weekday", date_read.Weekday) ∷
    (codes "to_julian_day", date_read.JulianDay) ∷ []

-- the reads of the time of day, by their names
unfoldable pub clock_reads : List (List ℕ × ClockRead)
clock_reads =
    (codes "time", clock_read.Time) ∷
    (codes "as_hms", clock_read.Hms) ∷
    (codes "as_hms_milli", clock_read.HmsMilli) ∷
    (codes "as_hms_micro", clock_read.HmsMicro) ∷
    (codes "as_hms_nano", clock_read.HmsNano) ∷
    (codes "hour", clock_read.Hour) ∷
    (codes "minute", clock_read.Minute) ∷
    (codes "second", clock_read.Second) ∷
    (codes "millisecond", clock_read.Millisecond) ∷
    (codes "microsecond", clock_read.Microsecond) ∷
    (codes "nanosecond", clock_read.Nanosecond) ∷ []

-- the read of a name
unfoldable pub read_of : List ℕ → Option Call
read_of name = option_or (option_map call.ReadDate (entry_of date_reads name)) (option_map call.ReadClock (entry_of clock_reads name))

-- the duration of its parts: seconds, and nanoseconds of the same sign that are less than a second
abbrev pub duration_of_numbers : ℤ → ℤ → Option ℤ
duration_of_numbers s f =
    if is_outside (neg_ℤ (pos 999_999_999)) (pos 999_999_999) f || (int_lt s (pos 0) && int_lt (pos 0) f) || (int_lt (pos 0) s && int_lt f (pos 0)) then None
    else Some (duration_of_parts s f)

-- a duration: seconds and nanoseconds
unfoldable pub parse_duration : List (List ℕ) → Option ℤ
parse_duration arguments =
    option_and_then (λ parts. option_and_then (λ s.
    option_and_then (λ f. duration_of_numbers s f) (i32_of parts.1)) (i64_of parts.0)) (exactly_two arguments)

-- a time of day: hour, minute, second and nanosecond
unfoldable pub parse_time : List (List ℕ) → Option ℕ
parse_time arguments =
    option_and_then (λ parts. option_and_then (λ h. option_and_then (λ m. option_and_then (λ s.
    option_and_then (λ n. result_ok (clock_time_nano h m s n)) (u32_of parts.3)) (u8_of parts.2)) (u8_of parts.1)) (u8_of parts.0))
    (exactly_four arguments)

-- the month of a number, 1 to 12
unfoldable pub parse_month : List ℕ → Option Month
parse_month number = option_and_then (λ m. if is_outside (pos 1) (pos 12) (pos m) then None else Some (month_numbered m)) (u8_of number)

-- a date: year, number of the month and day of the month
unfoldable pub parse_date : List (List ℕ) → Option ℤ
parse_date arguments =
    option_and_then (λ parts. option_and_then (λ y. option_and_then (λ m.
    option_and_then (λ d. result_ok (calendar_date y (month_number m) d)) (u8_of parts.2)) (parse_month parts.1)) (i32_of parts.0))
    (exactly_three arguments)

-- a sum or a difference
unfoldable pub shift_with : List ℕ → List (List ℕ) → Option Shift
shift_with name arguments =
    if bytes_eq name (codes "checked_add") then option_map shift.CheckedAdd (parse_duration arguments)
    else (if bytes_eq name (codes "checked_sub") then option_map shift.CheckedSub (parse_duration arguments)
    else (if bytes_eq name (codes "saturating_add") then option_map shift.SaturatingAdd (parse_duration arguments)
    else (if bytes_eq name (codes "saturating_sub") then option_map shift.SaturatingSub (parse_duration arguments)
    else None)))

-- a part of the date replaced by a number
unfoldable pub date_part_with : List ℕ → List ℕ → Option Replace
date_part_with name number =
    if bytes_eq name (codes "replace_year") then option_map replacing.Year (i32_of number)
    else (if bytes_eq name (codes "replace_month") then option_map replacing.Month (parse_month number)
    else (if bytes_eq name (codes "replace_day") then option_map replacing.Day (u8_of number)
    else (if bytes_eq name (codes "replace_ordinal") then option_map replacing.Ordinal (u16_of number)
    else None)))

-- a part of the fraction of a second replaced by a number
unfoldable pub fraction_part_with : List ℕ → List ℕ → Option Replace
fraction_part_with name number =
    if bytes_eq name (codes "replace_millisecond") then option_map replacing.Millisecond (u16_of number)
    else (if bytes_eq name (codes "replace_microsecond") then option_map replacing.Microsecond (u32_of number)
    else (if bytes_eq name (codes "replace_nanosecond") then option_map replacing.Nanosecond (u32_of number)
    else None))

-- a part of the time of day replaced by a number
unfoldable pub clock_part_with : List ℕ → List ℕ → Option Replace
clock_part_with name number =
    if bytes_eq name (codes "replace_hour") then option_map replacing.Hour (u8_of number)
    else (if bytes_eq name (codes "replace_minute") then option_map replacing.Minute (u8_of number)
    else (if bytes_eq name (codes "replace_second") then option_map replacing.Second (u8_of number)
    else fraction_part_with name number))

-- a part replaced by a number
abbrev pub part_with : List ℕ → List ℕ → Option Replace
part_with name number = option_or (date_part_with name number) (clock_part_with name number)

-- a replacement
unfoldable pub replace_with : List ℕ → List (List ℕ) → Option Replace
replace_with name arguments =
    if bytes_eq name (codes "replace_time") then option_map replacing.Time (parse_time arguments)
    else (if bytes_eq name (codes "replace_date") then option_map replacing.Date (parse_date arguments)
    else option_and_then (part_with name) (exactly_one arguments))

-- a conversion to an offset
abbrev pub local_with : List ℕ → List (List ℕ) → Option ℤ
local_with name arguments = if bytes_eq name (codes "checked_to_offset") then option_and_then parse_offset (exactly_one arguments) else None

-- a call with arguments
unfoldable pub call_with : List ℕ → List (List ℕ) → Option Call
call_with name arguments =
    option_or (option_map call.Shift (shift_with name arguments))
    (option_or (option_map call.Replace (replace_with name arguments)) (option_map call.Local (local_with name arguments)))

-- a call, by the parts before and after its `=`
unfoldable pub call_of_parts : List (List ℕ) → Option Call
call_of_parts [] = None
call_of_parts (name ∷ []) = read_of name
call_of_parts (name ∷ arguments ∷ []) = call_with name (arguments_of arguments)
call_of_parts (name ∷ arguments ∷ next ∷ parts) = None

-- a call
unfoldable pub call_of : List ℕ → Option Call
call_of word = call_of_parts (cut_at 61 word)

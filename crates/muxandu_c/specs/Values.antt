-- The values that cross, as those of the library.
use Rattle.std.specs.Prelude.{ℕ, List, ℤ, pos, neg_ℤ, ◌+ℤ◌, ◌-ℤ◌, ◌||◌, ◌==◌, Result, Ok, Err, if◌then◌else◌, nat_lt}
use Rattle.std.specs.Ordering.{int_cmp}
use Rattle.std.specs.declared.cmp.Ordering.{Ordering}
use Rattle.std.specs.declared.cmp.Ordering.TheVariants.{Less, Equal, Greater}
use Rattle.calendar_values.specs.Calendar.{year_of, month_of, day_of_month_of, ordinal_of, is_leap_year, days_in_month}
use Rattle.calendar_values.specs.Clock.{hour_of, minute_of, second_of, nanosecond_of}
use Rattle.calendar_values.specs.Clock.{nanos_per_day, nanos_per_hour, nanos_per_minute, nanos_per_second, nanos_per_millisecond, nanos_per_microsecond}
use Rattle.calendar_values.specs.Durations.{duration_of_parts, least_duration, greatest_duration, whole_seconds_of, subsec_nanoseconds_of}
use Rattle.calendar_values.specs.Offsets.{offset_of_seconds}
use Rattle.calendar_values.specs.Range.{is_outside, first_day, last_day}
use Rattle.calendar_values.specs.Constructors.{calendar_date, ordinal_date, clock_time_nano}
use Rattle.calendar_values.specs.WallClock.{wall_clock, wall_day, wall_time, unix_seconds_of, first_wall_clock, last_wall_clock}
use Rattle.calendar_values.specs.Weeks.{weekday_of}
use Rattle.plain_times.specs.Sums.{nearest_wall_clock}
use Rattle.plain_times.specs.Truncations.{wall_multiple_below}
use Rattle.offset_times.specs.Local.{Local, wall_at, instant_of, shown_at, local_multiple_below}
use Rattle.stamp_times.specs.Instants.{unix_nanosecond_of, instant_of_parts, instant_of_milliseconds, unix_milliseconds_of, unix_microseconds_of}
use Rattle.stamp_times.specs.Refusals.{timestamp_of_parts}
use Rattle.offset_times.specs.Texts.{offset_date_time_text}
use Rattle.stamp_times.specs.Texts.{timestamp_text}
use Rattle.muxandu_c.specs.Answers.{as_refused, and_then}
use Rattle.muxandu_c.specs.declared.refused.Refused.{Refused}
use Rattle.muxandu_c.specs.declared.refused.Refused.TheVariants as refused
use Rattle.muxandu_c.specs.declared.unit.Unit.{Unit}
use Rattle.muxandu_c.specs.declared.unit.Unit.TheVariants as unit
use Rattle.muxandu_c.specs.declared.values.MuxanduDateTime.{MuxanduDateTime}
use Rattle.muxandu_c.specs.declared.values.MuxanduTimestamp.{MuxanduTimestamp}
use Rattle.muxandu_c.specs.declared.values.MuxanduDuration.{MuxanduDuration}
use Rattle.muxandu_c.specs.declared.values.MuxanduDate.{MuxanduDate}
use Rattle.muxandu_c.specs.declared.values.MuxanduOrdinalDate.{MuxanduOrdinalDate}

-- the number of a month, or the error
abbrev pub month_value : ℕ → Result ℕ Refused
month_value m = if m == 0 || nat_lt 12 m then Err refused.Month else Ok m

-- the day of a year, the number of a month, and a day of the month
abbrev pub date_value : ℤ → ℕ → ℕ → Result ℤ Refused
date_value y m d = and_then (month_value m) (λ month. as_refused (calendar_date y month d))

-- the date-time of its parts, or the first part that is out of range
abbrev pub date_time_value : MuxanduDateTime → Result Local Refused
date_time_value v =
    and_then (date_value v.year v.month v.day) (λ n.
    and_then (as_refused (clock_time_nano v.hour v.minute v.second v.nanosecond)) (λ c.
    and_then (as_refused (offset_of_seconds v.offset_seconds)) (λ o. Ok (wall_at (wall_clock n c) o))))

-- the parts of a date-time
abbrev pub date_time_parts : Local → MuxanduDateTime
date_time_parts at = record {
  year = year_of (wall_day at.wall);
  month = month_of (wall_day at.wall);
  day = day_of_month_of (wall_day at.wall);
  hour = hour_of (wall_time at.wall);
  minute = minute_of (wall_time at.wall);
  second = second_of (wall_time at.wall);
  nanosecond = nanosecond_of (wall_time at.wall);
  offset_seconds = at.offset;
}

-- the instant of its parts
abbrev pub timestamp_value : MuxanduTimestamp → Result ℤ Refused
timestamp_value v = as_refused (timestamp_of_parts v.seconds v.nanoseconds)

-- the parts of an instant
abbrev pub timestamp_parts : ℤ → MuxanduTimestamp
timestamp_parts i = record { seconds = unix_seconds_of i; nanoseconds = unix_nanosecond_of i }

-- the duration of its parts together
abbrev pub duration_value : MuxanduDuration → Result ℤ Refused
duration_value v =
    let d = duration_of_parts v.seconds v.nanoseconds in
    if is_outside least_duration greatest_duration d then Err refused.Duration else Ok d

-- the parts of a duration, of one sign
abbrev pub duration_parts : ℤ → MuxanduDuration
duration_parts d = record { seconds = whole_seconds_of d; nanoseconds = subsec_nanoseconds_of d }

-- an instant, or a wall clock, if the range has it
abbrev pub instant_if_any : ℤ → Result ℤ Refused
instant_if_any i = if is_outside first_wall_clock last_wall_clock i then Err refused.Result else Ok i

-- a wall clock at an offset, if the range has it
abbrev pub local_if_any : ℤ → ℤ → Result Local Refused
local_if_any wall o = and_then (instant_if_any wall) (λ shown. Ok (wall_at shown o))

-- the date-time that clocks at an offset show at an instant, if the range has it
abbrev pub shown_at_offset : ℤ → ℤ → Result Local Refused
shown_at_offset i offset_seconds =
    and_then (as_refused (offset_of_seconds offset_seconds)) (λ o.
    local_if_any (shown_at i o) o)

-- the parts of an instant, of a duration and of a date-time, if a result has one
abbrev pub as_timestamp : Result ℤ Refused → Result MuxanduTimestamp Refused
as_timestamp answer = and_then answer (λ i. Ok (timestamp_parts i))

abbrev pub as_duration : Result ℤ Refused → Result MuxanduDuration Refused
as_duration answer = and_then answer (λ d. Ok (duration_parts d))

abbrev pub as_date_time : Result Local Refused → Result MuxanduDateTime Refused
as_date_time answer = and_then answer (λ at. Ok (date_time_parts at))

-- the parts of the date-time that clocks at an offset show at an instant
abbrev pub date_time_from_timestamp : MuxanduTimestamp → ℤ → Result MuxanduDateTime Refused
date_time_from_timestamp v offset_seconds =
    as_date_time (and_then (timestamp_value v) (λ i. shown_at_offset i offset_seconds))

-- the instant of a date-time, if the range has it
abbrev pub date_time_instant : MuxanduDateTime → Result ℤ Refused
date_time_instant v = and_then (date_time_value v) (λ at. instant_if_any (instant_of at))

abbrev pub timestamp_from_date_time : MuxanduDateTime → Result MuxanduTimestamp Refused
timestamp_from_date_time v = as_timestamp (date_time_instant v)

-- the same instant at another offset
abbrev pub date_time_to_offset : MuxanduDateTime → ℤ → Result MuxanduDateTime Refused
date_time_to_offset v offset_seconds =
    as_date_time (and_then (date_time_value v) (λ at. shown_at_offset (instant_of at) offset_seconds))

-- the sum of a timestamp and a duration, if the range has it, and the sum clamped to the range
abbrev pub timestamp_add : MuxanduTimestamp → MuxanduDuration → Result MuxanduTimestamp Refused
timestamp_add v w =
    as_timestamp (and_then (timestamp_value v) (λ i. and_then (duration_value w) (λ d. instant_if_any (i +ℤ d))))

abbrev pub timestamp_saturating_add : MuxanduTimestamp → MuxanduDuration → Result MuxanduTimestamp Refused
timestamp_saturating_add v w =
    as_timestamp (and_then (timestamp_value v) (λ i. and_then (duration_value w) (λ d. Ok (nearest_wall_clock (i +ℤ d)))))

-- the difference of a timestamp and a duration, if the range has it, and the difference clamped to the range
abbrev pub timestamp_subtract : MuxanduTimestamp → MuxanduDuration → Result MuxanduTimestamp Refused
timestamp_subtract v w =
    as_timestamp (and_then (timestamp_value v) (λ i. and_then (duration_value w) (λ d. instant_if_any (i -ℤ d))))

abbrev pub timestamp_saturating_subtract : MuxanduTimestamp → MuxanduDuration → Result MuxanduTimestamp Refused
timestamp_saturating_subtract v w =
    as_timestamp (and_then (timestamp_value v) (λ i. and_then (duration_value w) (λ d. Ok (nearest_wall_clock (i -ℤ d)))))

-- the duration from the second timestamp to the first
abbrev pub timestamp_difference : MuxanduTimestamp → MuxanduTimestamp → Result MuxanduDuration Refused
timestamp_difference v w =
    as_duration (and_then (timestamp_value v) (λ i. and_then (timestamp_value w) (λ j. Ok (i -ℤ j))))

-- the unit of a number of the header
abbrev pub unit_numbered : ℕ → Result Unit Refused
unit_numbered number =
    if number == 1 then Ok unit.Day
    else (if number == 2 then Ok unit.Hour
    else (if number == 3 then Ok unit.Minute
    else (if number == 4 then Ok unit.Second
    else (if number == 5 then Ok unit.Millisecond
    else (if number == 6 then Ok unit.Microsecond
    else (if number == 7 then Ok unit.Nanosecond
    else Err refused.Unit))))))

-- the nanoseconds of a unit
abbrev pub unit_nanos : Unit → ℕ
unit_nanos unit.Day = nanos_per_day
unit_nanos unit.Hour = nanos_per_hour
unit_nanos unit.Minute = nanos_per_minute
unit_nanos unit.Second = nanos_per_second
unit_nanos unit.Millisecond = nanos_per_millisecond
unit_nanos unit.Microsecond = nanos_per_microsecond
unit_nanos unit.Nanosecond = 1

-- a date-time truncated to a unit, and a timestamp, rounded down before 1970 too
abbrev pub date_time_truncate : MuxanduDateTime → ℕ → Result MuxanduDateTime Refused
date_time_truncate v number =
    as_date_time (and_then (date_time_value v) (λ at. and_then (unit_numbered number) (λ unit. Ok (local_multiple_below (unit_nanos unit) at))))

abbrev pub timestamp_truncate : MuxanduTimestamp → ℕ → Result MuxanduTimestamp Refused
timestamp_truncate v number =
    as_timestamp (and_then (timestamp_value v) (λ i. and_then (unit_numbered number) (λ unit. Ok (wall_multiple_below (unit_nanos unit) i))))

-- the sign of an order: -1, 0 or 1
abbrev pub sign_of : Ordering → ℤ
sign_of Less = neg_ℤ (pos 1)
sign_of Equal = pos 0
sign_of Greater = pos 1

-- the order of two timestamps, also of those that are invalid: seconds and nanoseconds are added
abbrev pub timestamp_compare : MuxanduTimestamp → MuxanduTimestamp → ℤ
timestamp_compare v w = sign_of (int_cmp (instant_of_parts v.seconds v.nanoseconds) (instant_of_parts w.seconds w.nanoseconds))

-- the order of two date-times, by instant
abbrev pub date_time_compare : MuxanduDateTime → MuxanduDateTime → Result ℤ Refused
date_time_compare v w =
    and_then (date_time_value v) (λ a. and_then (date_time_value w) (λ b. Ok (sign_of (int_cmp (instant_of a) (instant_of b)))))

-- a day number, if it is in the range
abbrev pub day_value : ℤ → Result ℤ Refused
day_value n = if is_outside first_day last_day n then Err refused.DayNumber else Ok n

-- the day of a sum of days, if the range has it
abbrev pub day_if_any : ℤ → Result ℤ Refused
day_if_any n = if is_outside first_day last_day n then Err refused.Result else Ok n

-- the parts of a date
abbrev pub date_parts : ℤ → MuxanduDate
date_parts n = record { year = year_of n; month = month_of n; day = day_of_month_of n }

-- the dates of a day number, and its day of the week
abbrev pub date_from_day : ℤ → Result MuxanduDate Refused
date_from_day n = and_then (day_value n) (λ day. Ok (date_parts day))

abbrev pub ordinal_date_from_day : ℤ → Result MuxanduOrdinalDate Refused
ordinal_date_from_day n = and_then (day_value n) (λ day. Ok (record { year = year_of day; ordinal = ordinal_of day }))

abbrev pub weekday_from_day : ℤ → Result ℕ Refused
weekday_from_day n = and_then (day_value n) (λ day. Ok (weekday_of day))

-- the day number of a date
abbrev pub day_from_date : MuxanduDate → Result ℤ Refused
day_from_date v = date_value v.year v.month v.day

abbrev pub day_from_ordinal_date : MuxanduOrdinalDate → Result ℤ Refused
day_from_ordinal_date v = as_refused (ordinal_date v.year v.ordinal)

-- the number of days of a month, if the range has its first day
abbrev pub length_of_month : ℤ → ℕ → Result ℕ Refused
length_of_month y m =
    and_then (month_value m) (λ month. and_then (as_refused (calendar_date y month 1)) (λ first. Ok (days_in_month (is_leap_year y) month)))

-- the day that the clocks of a date-time show
abbrev pub date_time_day : MuxanduDateTime → Result ℤ Refused
date_time_day v = and_then (date_time_value v) (λ at. Ok (wall_day at.wall))

-- the date-time that clocks at an offset show at a Unix second
abbrev pub date_time_of_second : ℤ → ℤ → Result MuxanduDateTime Refused
date_time_of_second offset_seconds second = date_time_from_timestamp (record { seconds = second; nanoseconds = 0 }) offset_seconds

-- the text of a date-time
abbrev pub date_time_text : MuxanduDateTime → Result (List ℕ) Refused
date_time_text v = and_then (date_time_value v) (λ at. Ok (offset_date_time_text at))

-- the text of a timestamp
abbrev pub timestamp_text_of : MuxanduTimestamp → Result (List ℕ) Refused
timestamp_text_of v = and_then (timestamp_value v) (λ i. Ok (timestamp_text i))

-- the Unix second of a date-time
abbrev pub second_of_date_time : MuxanduDateTime → Result ℤ Refused
second_of_date_time v = and_then (date_time_instant v) (λ i. Ok (unix_seconds_of i))

-- an instant, if the range has it, or the error of its count
abbrev pub count_if_any : ℤ → Result ℤ Refused
count_if_any i = if is_outside first_wall_clock last_wall_clock i then Err refused.Timestamp else Ok i

-- the instant of a number of milliseconds
abbrev pub timestamp_from_milliseconds : ℤ → Result MuxanduTimestamp Refused
timestamp_from_milliseconds count = as_timestamp (count_if_any (instant_of_milliseconds count))

-- the milliseconds of an instant, rounded down
abbrev pub timestamp_to_milliseconds : MuxanduTimestamp → Result ℤ Refused
timestamp_to_milliseconds v = and_then (timestamp_value v) (λ i. Ok (unix_milliseconds_of i))

-- a number, if it fits in 64 bits
abbrev pub in_64_bits : ℤ → Result ℤ Refused
in_64_bits n =
    if is_outside (neg_ℤ (pos 9_223_372_036_854_775_808)) (pos 9_223_372_036_854_775_807) n then Err refused.Result else Ok n

-- the microseconds of an instant, rounded down, and its nanoseconds
abbrev pub timestamp_to_microseconds : MuxanduTimestamp → Result ℤ Refused
timestamp_to_microseconds v = and_then (timestamp_value v) (λ i. in_64_bits (unix_microseconds_of i))

abbrev pub timestamp_to_nanoseconds : MuxanduTimestamp → Result ℤ Refused
timestamp_to_nanoseconds v = and_then (timestamp_value v) (λ i. in_64_bits i)

-- the sum of a date-time and a duration at one offset, if the range has it, and the sum clamped to the range
abbrev pub date_time_add : MuxanduDateTime → MuxanduDuration → Result MuxanduDateTime Refused
date_time_add v w =
    as_date_time (and_then (date_time_value v) (λ at. and_then (duration_value w) (λ d. local_if_any (at.wall +ℤ d) at.offset)))

abbrev pub date_time_saturating_add : MuxanduDateTime → MuxanduDuration → Result MuxanduDateTime Refused
date_time_saturating_add v w =
    as_date_time (and_then (date_time_value v) (λ at. and_then (duration_value w) (λ d. Ok (wall_at (nearest_wall_clock (at.wall +ℤ d)) at.offset))))

-- the difference of a date-time and a duration at one offset, if the range has it, and the difference clamped to the range
abbrev pub date_time_subtract : MuxanduDateTime → MuxanduDuration → Result MuxanduDateTime Refused
date_time_subtract v w =
    as_date_time (and_then (date_time_value v) (λ at. and_then (duration_value w) (λ d. local_if_any (at.wall -ℤ d) at.offset)))

abbrev pub date_time_saturating_subtract : MuxanduDateTime → MuxanduDuration → Result MuxanduDateTime Refused
date_time_saturating_subtract v w =
    as_date_time (and_then (date_time_value v) (λ at. and_then (duration_value w) (λ d. Ok (wall_at (nearest_wall_clock (at.wall -ℤ d)) at.offset))))

-- the duration from the second date-time to the first, by instant
abbrev pub date_time_difference : MuxanduDateTime → MuxanduDateTime → Result MuxanduDuration Refused
date_time_difference v w =
    as_duration (and_then (date_time_value v) (λ a. and_then (date_time_value w) (λ b. Ok (instant_of a -ℤ instant_of b))))

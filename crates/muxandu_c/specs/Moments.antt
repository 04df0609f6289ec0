-- The rows of a column of moments: an instant, and the offset of the clocks that show it.
use Rattle.std.specs.Prelude.{ℕ, List, ℤ, ◌+ℤ◌, ◌-ℤ◌, Result, Ok}
use Rattle.std.specs.Ordering.{int_cmp}
use Rattle.calendar_values.specs.WallClock.{unix_seconds_of}
use Rattle.offset_times.specs.Local.{instant_of, local_multiple_below}
use Rattle.stamp_times.specs.Instants.{unix_nanosecond_of}
use Rattle.muxandu_c.specs.Answers.{and_then}
use Rattle.muxandu_c.specs.DateSums.{date_add_months}
use Rattle.muxandu_c.specs.TextBatches.{date_time_at}
use Rattle.muxandu_c.specs.Values.{timestamp_value, duration_value, shown_at_offset, instant_if_any, unit_numbered, unit_nanos, sign_of}
use Rattle.muxandu_c.specs.Values.{as_duration, date_time_from_timestamp, date_time_instant}
use Rattle.muxandu_c.specs.declared.moments.MuxanduMoment.{MuxanduMoment}
use Rattle.muxandu_c.specs.declared.refused.Refused.{Refused}
use Rattle.muxandu_c.specs.declared.values.MuxanduDate.{MuxanduDate}
use Rattle.muxandu_c.specs.declared.values.MuxanduDateTime.{MuxanduDateTime}
use Rattle.muxandu_c.specs.declared.values.MuxanduDuration.{MuxanduDuration}
use Rattle.muxandu_c.specs.declared.values.MuxanduSpan.{MuxanduSpan}
use Rattle.muxandu_c.specs.declared.values.MuxanduTimestamp.{MuxanduTimestamp}

-- the timestamp of a moment
abbrev pub timestamp_of_moment : MuxanduMoment → MuxanduTimestamp
timestamp_of_moment v = record { seconds = v.seconds; nanoseconds = v.nanoseconds }

-- an instant that clocks at an offset can show
abbrev pub instant_at : ℤ → ℤ → Result ℤ Refused
instant_at offset_seconds i = and_then (shown_at_offset i offset_seconds) (λ at. Ok i)

-- the instant of a moment
abbrev pub moment_value : MuxanduMoment → Result ℤ Refused
moment_value v = and_then (timestamp_value (timestamp_of_moment v)) (instant_at v.offset_seconds)

-- the parts of a moment at an offset, and the same if a result has its instant
abbrev pub moment_parts : ℤ → ℤ → MuxanduMoment
moment_parts offset_seconds i = record { seconds = unix_seconds_of i; nanoseconds = unix_nanosecond_of i; offset_seconds = offset_seconds }

abbrev pub as_moment : ℤ → Result ℤ Refused → Result MuxanduMoment Refused
as_moment offset_seconds answer = and_then answer (λ i. Ok (moment_parts offset_seconds i))

-- the date-time that the clocks of a moment show, and the moment of a date-time
abbrev pub date_time_of_moment : MuxanduMoment → Result MuxanduDateTime Refused
date_time_of_moment v = date_time_from_timestamp (timestamp_of_moment v) v.offset_seconds

abbrev pub moment_of_date_time : MuxanduDateTime → Result MuxanduMoment Refused
moment_of_date_time v = as_moment v.offset_seconds (date_time_instant v)

-- the same instant at another offset
abbrev pub moment_to_offset : ℤ → MuxanduMoment → Result MuxanduMoment Refused
moment_to_offset offset_seconds v = as_moment offset_seconds (and_then (moment_value v) (instant_at offset_seconds))

-- an instant rounded down to a unit, by clocks at an offset
abbrev pub instant_truncate : ℕ → ℤ → ℤ → Result ℤ Refused
instant_truncate number offset_seconds i =
    and_then (shown_at_offset i offset_seconds) (λ at.
    and_then (unit_numbered number) (λ unit. instant_if_any (instant_of (local_multiple_below (unit_nanos unit) at))))

-- a moment rounded down to a unit, by its own clocks
abbrev pub moment_truncate : ℕ → MuxanduMoment → Result MuxanduMoment Refused
moment_truncate number v =
    as_moment v.offset_seconds (and_then (timestamp_value (timestamp_of_moment v)) (instant_truncate number v.offset_seconds))

-- the date of a date-time, and a date-time with another date
abbrev pub date_of_date_time : MuxanduDateTime → MuxanduDate
date_of_date_time v = record { year = v.year; month = v.month; day = v.day }

abbrev pub on_date : MuxanduDateTime → MuxanduDate → MuxanduDateTime
on_date v date = record {
  year = date.year;
  month = date.month;
  day = date.day;
  hour = v.hour;
  minute = v.minute;
  second = v.second;
  nanosecond = v.nanosecond;
  offset_seconds = v.offset_seconds;
}

-- the same time of day some months later, by the clocks of the moment
abbrev pub moment_add_months : ℤ → MuxanduMoment → Result MuxanduMoment Refused
moment_add_months months v =
    and_then (date_time_of_moment v) (λ at.
    and_then (date_add_months (date_of_date_time at) months) (λ date. moment_of_date_time (on_date at date)))

-- the sum and the difference of a moment and a duration, at the offset of the moment
abbrev pub moment_add : MuxanduMoment → MuxanduDuration → Result MuxanduMoment Refused
moment_add v w =
    as_moment v.offset_seconds (and_then (moment_value v) (λ i. and_then (duration_value w) (λ d.
    and_then (instant_if_any (i +ℤ d)) (instant_at v.offset_seconds))))

abbrev pub moment_subtract : MuxanduMoment → MuxanduDuration → Result MuxanduMoment Refused
moment_subtract v w =
    as_moment v.offset_seconds (and_then (moment_value v) (λ i. and_then (duration_value w) (λ d.
    and_then (instant_if_any (i -ℤ d)) (instant_at v.offset_seconds))))

-- the order of two moments by their instants, and the duration from the second to the first
abbrev pub moment_compare : MuxanduMoment → MuxanduMoment → Result ℤ Refused
moment_compare v w = and_then (moment_value v) (λ i. and_then (moment_value w) (λ j. Ok (sign_of (int_cmp i j))))

abbrev pub moment_difference : MuxanduMoment → MuxanduMoment → Result MuxanduDuration Refused
moment_difference v w = as_duration (and_then (moment_value v) (λ i. and_then (moment_value w) (λ j. Ok (i -ℤ j))))

-- the moment of the text of a span of a block
abbrev pub moment_at : List ℕ → MuxanduSpan → Result MuxanduMoment Refused
moment_at block span = and_then (date_time_at block span) moment_of_date_time

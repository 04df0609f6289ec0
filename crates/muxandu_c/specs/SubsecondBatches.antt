-- Counts of milliseconds, microseconds and nanoseconds as date-times, and back: as the single calls, one after the other.
use Rattle.std.specs.Prelude.{ℤ, Result}
use Rattle.stamp_times.specs.Instants.{instant_of_microseconds}
use Rattle.muxandu_c.specs.Answers.{and_then}
use Rattle.muxandu_c.specs.Values.{timestamp_parts, date_time_from_timestamp, timestamp_from_date_time, timestamp_from_milliseconds}
use Rattle.muxandu_c.specs.Values.{timestamp_to_milliseconds, timestamp_to_microseconds, timestamp_to_nanoseconds}
use Rattle.muxandu_c.specs.declared.refused.Refused.{Refused}
use Rattle.muxandu_c.specs.declared.values.MuxanduDateTime.{MuxanduDateTime}

-- the date-time that clocks at an offset show at a number of milliseconds, of microseconds or of nanoseconds
abbrev pub date_time_of_milliseconds : ℤ → ℤ → Result MuxanduDateTime Refused
date_time_of_milliseconds offset_seconds count =
    and_then (timestamp_from_milliseconds count) (λ at. date_time_from_timestamp at offset_seconds)

abbrev pub date_time_of_microseconds : ℤ → ℤ → Result MuxanduDateTime Refused
date_time_of_microseconds offset_seconds count =
    date_time_from_timestamp (timestamp_parts (instant_of_microseconds count)) offset_seconds

abbrev pub date_time_of_nanoseconds : ℤ → ℤ → Result MuxanduDateTime Refused
date_time_of_nanoseconds offset_seconds count = date_time_from_timestamp (timestamp_parts count) offset_seconds

-- the milliseconds, the microseconds and the nanoseconds of a date-time
abbrev pub milliseconds_of_date_time : MuxanduDateTime → Result ℤ Refused
milliseconds_of_date_time v = and_then (timestamp_from_date_time v) timestamp_to_milliseconds

abbrev pub microseconds_of_date_time : MuxanduDateTime → Result ℤ Refused
microseconds_of_date_time v = and_then (timestamp_from_date_time v) timestamp_to_microseconds

abbrev pub nanoseconds_of_date_time : MuxanduDateTime → Result ℤ Refused
nanoseconds_of_date_time v = and_then (timestamp_from_date_time v) timestamp_to_nanoseconds

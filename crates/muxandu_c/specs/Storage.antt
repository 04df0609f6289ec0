-- Values as databases store them.
use Rattle.std.specs.Prelude.{ℕ, ◌-◌, ◌^◌, ◌%◌, ◌||◌, ℤ, pos, ◌+ℤ◌, ◌-ℤ◌, Result, Ok, Err, if◌then◌else◌}
use Rattle.calendar_values.specs.WallClock.{unix_seconds_of}
use Rattle.stamp_times.specs.Instants.{instant_of_microseconds, unix_microseconds_of, unix_nanosecond_of}
use Rattle.utc_times.specs.UnixTime.{instant_of_second}
use Rattle.muxandu_c.specs.Answers.{and_then}
use Rattle.muxandu_c.specs.Exchange.{year_has_no_text, offset_has_no_text}
use Rattle.muxandu_c.specs.Values.{date_time_value, timestamp_value, timestamp_parts, in_64_bits}
use Rattle.muxandu_c.specs.declared.refused.Refused.{Refused}
use Rattle.muxandu_c.specs.declared.refused.Refused.TheVariants as refused
use Rattle.muxandu_c.specs.declared.values.MuxanduDateTime.{MuxanduDateTime}
use Rattle.muxandu_c.specs.declared.values.MuxanduTimestamp.{MuxanduTimestamp}

-- the seconds and the microseconds from 1970-01-01 to 2000-01-01, 10,957 days later
abbrev pub seconds_to_2000 : ℤ
seconds_to_2000 = pos 946_684_800

abbrev pub microseconds_to_2000 : ℤ
microseconds_to_2000 = pos 946_684_800_000_000

-- the instant of a number of microseconds from 2000-01-01 on
abbrev pub timestamp_from_microseconds_2000 : ℤ → MuxanduTimestamp
timestamp_from_microseconds_2000 count =
    timestamp_parts (instant_of_microseconds count +ℤ instant_of_second seconds_to_2000)

-- the microseconds from 2000-01-01 to an instant, rounded down, if they fit in 64 bits
abbrev pub timestamp_to_microseconds_2000 : MuxanduTimestamp → Result ℤ Refused
timestamp_to_microseconds_2000 v =
    and_then (timestamp_value v) (λ i. in_64_bits (unix_microseconds_of i -ℤ microseconds_to_2000))

-- the nanoseconds between two fractions of a number of digits that follow each other
abbrev pub nanos_of_digits : ℕ → ℕ
nanos_of_digits digits = 10 ^ (9 - digits)

-- the same second, with the first digits of its fraction
abbrev pub timestamp_with_digits : ℕ → ℤ → MuxanduTimestamp
timestamp_with_digits digits i =
    let n = unix_nanosecond_of i in
    record { seconds = unix_seconds_of i; nanoseconds = n - n % nanos_of_digits digits }

abbrev pub timestamp_truncate_digits : MuxanduTimestamp → ℕ → Result MuxanduTimestamp Refused
timestamp_truncate_digits v digits = and_then (timestamp_value v) (λ i. Ok (timestamp_with_digits digits i))

-- a date-time whose year has four digits, and whose offset is of whole minutes below a day
abbrev pub date_time_with_text : MuxanduDateTime → Result MuxanduDateTime Refused
date_time_with_text v =
    and_then (date_time_value v) (λ at.
    if year_has_no_text at.wall || offset_has_no_text at.offset then Err refused.NoText else Ok v)

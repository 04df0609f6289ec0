-- Texts of RFC 3339 without an offset: date-times and times of day.
use Rattle.std.specs.Prelude.{ℕ, ◌+◌, ◌==◌, ℤ, List, length, take, drop, nat_lt, Result, Ok, Err, if◌then◌else◌}
use Rattle.calendar_values.specs.Offsets.{offset_of_seconds}
use Rattle.local_texts.specs.LocalForms.{date_time_in_utc, time_in_utc}
use Rattle.rfc3339.specs.declared.parts.Parts.{Parts}
use Rattle.muxandu_c.specs.Answers.{and_then, as_refused, status_number}
use Rattle.muxandu_c.specs.Exchange.{date_time_spelled}
use Rattle.muxandu_c.specs.Moments.{moment_of_date_time}
use Rattle.muxandu_c.specs.TextBatches.{date_time_read}
use Rattle.muxandu_c.specs.declared.local_date_times.MuxanduTime.{MuxanduTime}
use Rattle.muxandu_c.specs.declared.moments.MuxanduMoment.{MuxanduMoment}
use Rattle.muxandu_c.specs.declared.refused.Refused.{Refused}
use Rattle.muxandu_c.specs.declared.refused.Refused.TheVariants as refused
use Rattle.muxandu_c.specs.declared.values.MuxanduDateTime.{MuxanduDateTime}
use Rattle.muxandu_c.specs.declared.values.MuxanduSpan.{MuxanduSpan}

-- the date-time of a text without an offset, at the offset 0: that of the text in UTC
abbrev pub plain_read : List ℕ → Result MuxanduDateTime Refused
plain_read text = date_time_read (date_time_in_utc text)

-- the time of day of a date-time
abbrev pub time_of : MuxanduDateTime → MuxanduTime
time_of v = record { hour = v.hour; minute = v.minute; second = v.second; nanosecond = v.nanosecond }

-- the time of day of a text, and of the numbers of one
abbrev pub time_read : List ℕ → Result MuxanduTime Refused
time_read text = and_then (date_time_read (time_in_utc text)) (λ v. Ok (time_of v))

abbrev pub time_spelled : Parts → Result MuxanduTime Refused
time_spelled p = and_then (date_time_spelled p) (λ v. Ok (time_of v))

-- the same clocks at another offset
abbrev pub at_offset : ℤ → MuxanduDateTime → MuxanduDateTime
at_offset offset_seconds v = record {
  year = v.year;
  month = v.month;
  day = v.day;
  hour = v.hour;
  minute = v.minute;
  second = v.second;
  nanosecond = v.nanosecond;
  offset_seconds = offset_seconds;
}

-- the first result, or the second if the first is a syntax error
abbrev pub or_if_syntax : Result MuxanduDateTime Refused → Result MuxanduDateTime Refused → Result MuxanduDateTime Refused
or_if_syntax (Ok value) second = Ok value
or_if_syntax (Err refusal) second = if status_number refusal == status_number refused.Syntax then second else Err refusal

-- the date-time of a text without an offset, at this one
abbrev pub plain_at : ℤ → List ℕ → Result MuxanduDateTime Refused
plain_at offset_seconds text = and_then (plain_read text) (λ v. Ok (at_offset offset_seconds v))

-- the date-time of a text with an offset, or of one without it at this offset
abbrev pub local_read : ℤ → List ℕ → Result MuxanduDateTime Refused
local_read offset_seconds text =
    and_then (as_refused (offset_of_seconds offset_seconds)) (λ o. or_if_syntax (date_time_read text) (plain_at o text))

-- the same of the text at a span of a block, as a date-time and as a moment
abbrev pub local_at : List ℕ → ℤ → MuxanduSpan → Result MuxanduDateTime Refused
local_at block offset_seconds span =
    if nat_lt (length block) (span.start + span.length) then Err refused.Span
    else local_read offset_seconds (take span.length (drop span.start block))

abbrev pub local_moment_at : List ℕ → ℤ → MuxanduSpan → Result MuxanduMoment Refused
local_moment_at block offset_seconds span = and_then (local_at block offset_seconds span) moment_of_date_time

-- the same with the span first, for a span and an offset that are a pair
abbrev pub local_pair : List ℕ → MuxanduSpan → ℤ → Result MuxanduDateTime Refused
local_pair block span offset_seconds = local_at block offset_seconds span

abbrev pub local_moment_pair : List ℕ → MuxanduSpan → ℤ → Result MuxanduMoment Refused
local_moment_pair block span offset_seconds = local_moment_at block offset_seconds span

-- Texts of RFC 3339 of a time of day with an offset, and of an offset alone.
use Rattle.std.specs.Prelude.{ℕ, ℤ, List, Bool, Some, Result, Ok}
use Rattle.calendar_values.specs.Clock.{hour_of, minute_of, second_of, nanosecond_of}
use Rattle.local_texts.specs.LocalForms.{time_on_date, time_and_offset, meaning_as}
use Rattle.rfc3339.specs.Front.{offset_meaning, offset_reading_of}
use Rattle.rfc3339.specs.Reading.{reading_as}
use Rattle.rfc3339.specs.declared.parts.Parts.{Parts}
use Rattle.muxandu_c.specs.Answers.{and_then, text_as_refused}
use Rattle.muxandu_c.specs.declared.local_date_times.MuxanduTime.{MuxanduTime}
use Rattle.muxandu_c.specs.declared.refused.Refused.{Refused}

-- the parts of a time of day
abbrev pub time_parts : ℕ → MuxanduTime
time_parts t = record { hour = hour_of t; minute = minute_of t; second = second_of t; nanosecond = nanosecond_of t }

-- the same of a time of day with an offset
abbrev pub time_and_offset_parts : ℕ × ℤ → MuxanduTime × ℤ
time_and_offset_parts read = (time_parts read.0, read.1)

-- the time of day and the offset of a text, and of the numbers of one, as one of the first day of a month
abbrev pub full_time_read : List ℕ → Result (MuxanduTime × ℤ) Refused
full_time_read text = and_then (text_as_refused 1 (reading_as time_and_offset (time_on_date text))) (λ read. Ok (time_and_offset_parts read))

abbrev pub full_time_spelled : Parts → Result (MuxanduTime × ℤ) Refused
full_time_spelled p = and_then (text_as_refused 1 (meaning_as time_and_offset p)) (λ read. Ok (time_and_offset_parts read))

-- the offset of a text, and of the sign, the hours and the minutes of one
abbrev pub offset_read : List ℕ → Result ℤ Refused
offset_read text = text_as_refused 1 (offset_reading_of text)

abbrev pub offset_spelled : Bool → ℕ → ℕ → Result ℤ Refused
offset_spelled is_west hour minute = text_as_refused 1 (offset_meaning (Some (is_west, hour, minute)))

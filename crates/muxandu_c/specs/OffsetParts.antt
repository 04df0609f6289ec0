-- Offsets from UTC, as hours, minutes and seconds.
use Rattle.std.specs.Prelude.{ℤ, codes, Result, Ok, Err, if◌then◌else◌}
use Rattle.calendar_values.specs.Offsets.{offset_of_parts, offset_of_seconds, offset_hours_of, offset_minutes_of, offset_seconds_of}
use Rattle.calendar_values.specs.Refusals.{Refusal}
use Rattle.muxandu_c.specs.Answers.{and_then, as_refused, is_named}
use Rattle.muxandu_c.specs.declared.offsets.MuxanduOffset.{MuxanduOffset}
use Rattle.muxandu_c.specs.declared.refused.Refused.{Refused}
use Rattle.muxandu_c.specs.declared.refused.Refused.TheVariants as refused

-- the error of a part of an offset, as a caller sees it
abbrev pub refused_offset_part : Refusal → Refused
refused_offset_part r =
    if is_named r (codes "hours") then refused.OffsetHour
    else (if is_named r (codes "minutes") then refused.OffsetMinute
    else refused.OffsetSeconds)

-- the result of the library for parts of an offset, with its error as a caller sees it
abbrev pub offset_as_refused : Result ℤ Refusal → Result ℤ Refused
offset_as_refused (Ok o) = Ok o
offset_as_refused (Err refusal) = Err (refused_offset_part refusal)

-- the seconds of hours, minutes and seconds
abbrev pub offset_from_parts : MuxanduOffset → Result ℤ Refused
offset_from_parts v = offset_as_refused (offset_of_parts v.hours v.minutes v.seconds)

-- the hours, the minutes and the seconds of an offset
abbrev pub offset_to_parts : ℤ → Result MuxanduOffset Refused
offset_to_parts seconds =
    and_then (as_refused (offset_of_seconds seconds)) (λ o.
    Ok (record { hours = offset_hours_of o; minutes = offset_minutes_of o; seconds = offset_seconds_of o }))

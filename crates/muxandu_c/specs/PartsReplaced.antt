-- Date-times and instants with one part replaced.
use Rattle.std.specs.Prelude.{ℕ, ◌==◌, ℤ, pos, unsigned_abs, Result, Ok, Err, if◌then◌else◌}
use Rattle.calendar_values.specs.Range.{is_outside}
use Rattle.plain_times.specs.Replacements.{wall_year_outcome, wall_month_outcome, wall_day_outcome, wall_ordinal_outcome}
use Rattle.plain_times.specs.Replacements.{wall_hour_outcome, wall_minute_outcome, wall_second_outcome, wall_nanosecond_outcome}
use Rattle.offset_times.specs.Local.{at_offset_of}
use Rattle.muxandu_c.specs.Answers.{and_then, as_refused}
use Rattle.muxandu_c.specs.Values.{month_value, date_time_value, as_date_time, timestamp_value, as_timestamp}
use Rattle.muxandu_c.specs.declared.refused.Refused.{Refused}
use Rattle.muxandu_c.specs.declared.refused.Refused.TheVariants as refused
use Rattle.muxandu_c.specs.declared.replacements.Part.{Part}
use Rattle.muxandu_c.specs.declared.replacements.Part.TheVariants as part
use Rattle.muxandu_c.specs.declared.values.MuxanduDateTime.{MuxanduDateTime}
use Rattle.muxandu_c.specs.declared.values.MuxanduTimestamp.{MuxanduTimestamp}

-- the part of a number of the header
abbrev pub part_numbered : ℕ → Result Part Refused
part_numbered number =
    if number == 1 then Ok part.Year
    else (if number == 2 then Ok part.Month
    else (if number == 3 then Ok part.Day
    else (if number == 4 then Ok part.Ordinal
    else (if number == 5 then Ok part.Hour
    else (if number == 6 then Ok part.Minute
    else (if number == 7 then Ok part.Second
    else (if number == 8 then Ok part.Nanosecond
    else Err refused.Unit)))))))

-- the number of a part that has no sign, up to a limit
abbrev pub unsigned_part : ℤ → ℕ → Refused → Result ℕ Refused
unsigned_part value limit refusal = if is_outside (pos 0) (pos limit) value then Err refusal else Ok (unsigned_abs value)

-- a wall clock with a part replaced
abbrev pub with_part : ℤ → Part → ℤ → Result ℤ Refused
with_part w part.Year value = as_refused (wall_year_outcome w value).answer
with_part w part.Month value =
    and_then (unsigned_part value 12 refused.Month) (λ n. and_then (month_value n) (λ m. as_refused (wall_month_outcome w m).answer))
with_part w part.Day value = and_then (unsigned_part value 31 refused.Day) (λ d. as_refused (wall_day_outcome w d).answer)
with_part w part.Ordinal value = and_then (unsigned_part value 366 refused.Ordinal) (λ o. as_refused (wall_ordinal_outcome w o).answer)
with_part w part.Hour value = and_then (unsigned_part value 23 refused.Hour) (λ h. as_refused (wall_hour_outcome w h).answer)
with_part w part.Minute value = and_then (unsigned_part value 59 refused.Minute) (λ m. as_refused (wall_minute_outcome w m).answer)
with_part w part.Second value = and_then (unsigned_part value 59 refused.Second) (λ s. as_refused (wall_second_outcome w s).answer)
with_part w part.Nanosecond value =
    and_then (unsigned_part value 999_999_999 refused.Nanosecond) (λ n. as_refused (wall_nanosecond_outcome w n).answer)

-- a date-time with a part of its wall clock replaced
abbrev pub date_time_replace : MuxanduDateTime → ℕ → ℤ → Result MuxanduDateTime Refused
date_time_replace v number value =
    as_date_time (and_then (date_time_value v) (λ at.
    and_then (part_numbered number) (λ p.
    and_then (with_part at.wall p value) (λ w. Ok (at_offset_of at w)))))

-- an instant with a part of its wall clock in UTC replaced
abbrev pub timestamp_replace : MuxanduTimestamp → ℕ → ℤ → Result MuxanduTimestamp Refused
timestamp_replace v number value =
    as_timestamp (and_then (timestamp_value v) (λ i. and_then (part_numbered number) (λ p. with_part i p value)))

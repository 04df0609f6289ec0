-- The instant of the parts of a stamp.
use Rattle.std.specs.Prelude.{ℕ, ◌&&◌, ◌||◌, Bool, if◌then◌else◌, nat_lt, ℤ, pos, negsuc, ◌+ℤ◌, ◌-ℤ◌, ◌-◌, int_lt, Option, Some, None, is_some, is_none}
use Rattle.std.specs.Prelude.{Result, Ok, Err}
use Rattle.calendar_values.specs.Range.{is_outside}
use Rattle.calendar_values.specs.WallClock.{first_wall_clock, last_wall_clock, wall_clock}
use Rattle.format_descriptions.specs.ClockValues.{time_of_parts}
use Rattle.format_descriptions.specs.InstantValues.{instant_of_counts}
use Rattle.format_descriptions.specs.OffsetValues.{offset_of_parts}
use Rattle.format_descriptions.specs.Values.{date_of_parts}
use Rattle.format_descriptions.specs.declared.parts.Parts.{Parts}
use Rattle.format_descriptions.specs.declared.value_refusal.Field.TheVariants.{OffsetHour, Year}
use Rattle.format_descriptions.specs.declared.value_refusal.ValueRefusal.{ValueRefusal}
use Rattle.format_descriptions.specs.declared.value_refusal.ValueRefusal.TheVariants.{Missing, Wrong}
use Rattle.offset_times.specs.Local.{instant_of, wall_at}
use Rattle.log_forms.specs.declared.instants.Assumed.{Assumed}

-- whether the parts have a count of a Unix timestamp
abbrev pub has_count : Parts → Bool
has_count p = is_some p.unix_second || (is_some p.unix_millisecond || (is_some p.unix_microsecond || is_some p.unix_nanosecond))

-- whether the parts have an offset, or such a count
abbrev pub is_whole : Parts → Bool
is_whole p = is_some p.offset_hour || has_count p

-- whether the parts have no year
abbrev pub lacks_year : Parts → Bool
lacks_year p = is_none p.year && (is_none p.year_century && (is_none p.iso_year && is_none p.iso_year_century))

-- the year of a stamp in a month, by the year and the month of the stamp before, or the assumed year and 0 for the first stamp: the
-- year in which the month is nearest to that before. A month more than six earlier is of the next year, one more than six later of the
-- year before
abbrev pub year_of_month : ℤ → ℕ → ℕ → ℤ
year_of_month year before month =
    if nat_lt month (before - 6) && int_lt year (pos 999_999) then year +ℤ pos 1
    else (if nat_lt 0 before && (nat_lt before (month - 6) && int_lt (negsuc 999_998) year) then year -ℤ pos 1 else year)

-- the assumed year of a stamp, by its month if it has one
abbrev pub year_by_month : Option ℤ → ℕ → Option ℕ → Option ℤ
year_by_month None before month = None
year_by_month (Some year) before None = Some year
year_by_month (Some year) before (Some month) = Some (year_of_month year before month)

abbrev pub assumed_year : Assumed → Option ℕ → Option ℤ
assumed_year assumed month = year_by_month assumed.year assumed.month month

-- the parts with the assumed year, if they have none
unfoldable pub with_year : Assumed → Parts → Parts
with_year assumed p = if lacks_year p then record p { year = assumed_year assumed p.month } else p

-- the assumed offset
abbrev pub assumed_offset : Option ℤ → Result ℤ ValueRefusal
assumed_offset (Some offset) = Ok offset
assumed_offset None = Err (Missing OffsetHour)

-- the offset of the parts, less than a day, or the assumed one
abbrev pub offset_by : Assumed → Parts → Option ℕ → Result ℤ ValueRefusal
offset_by assumed p (Some hour) = if nat_lt 23 hour then Err (Wrong OffsetHour) else offset_of_parts p
offset_by assumed p None = assumed_offset assumed.offset

abbrev pub offset_known : Assumed → Parts → Result ℤ ValueRefusal
offset_known assumed p = offset_by assumed p p.offset_hour

-- an instant in range
abbrev pub instant_in_range : ℤ → Result ℤ ValueRefusal
instant_in_range i = if is_outside first_wall_clock last_wall_clock i then Err (Wrong Year) else Ok i

-- the instant of a day, a clock and an offset
abbrev pub utc_instant : ℤ → ℕ → ℤ → Result ℤ ValueRefusal
utc_instant day clock offset = instant_in_range (instant_of (wall_at (wall_clock day clock) offset))

abbrev pub instant_at : ℤ → ℕ → Result ℤ ValueRefusal → Result ℤ ValueRefusal
instant_at day clock (Ok offset) = utc_instant day clock offset
instant_at day clock (Err refusal) = Err refusal

abbrev pub instant_on : ℤ → Result ℕ ValueRefusal → Result ℤ ValueRefusal → Result ℤ ValueRefusal
instant_on day (Ok clock) offset = instant_at day clock offset
instant_on day (Err refusal) offset = Err refusal

abbrev pub instant_by : Result ℤ ValueRefusal → Result ℕ ValueRefusal → Result ℤ ValueRefusal → Result ℤ ValueRefusal
instant_by (Ok day) clock offset = instant_on day clock offset
instant_by (Err refusal) clock offset = Err refusal

-- the instant of the parts: that of a Unix timestamp, or of a date, a time of day and an offset, or the first error of these
unfoldable pub instant_of_parts : Assumed → Parts → Result ℤ ValueRefusal
instant_of_parts assumed p =
    if has_count p then instant_of_counts p
    else instant_by (date_of_parts (with_year assumed p)) (time_of_parts p) (offset_known assumed p)

-- The text of numbers, as a call returns it.
use Rattle.std.specs.Prelude.{ℕ, ℤ, pos, ◌≤◌, ◌/◌, ◌%◌, ◌||◌, Bool, not, int_lt, unsigned_abs, if◌then◌else◌, List, Option, Some, None, Result, Ok, Err}
use Rattle.calendar_values.specs.Range.{is_outside}
use Rattle.rfc3339.specs.Meaning.{AreInRange, value_of}
use Rattle.rfc3339.specs.Texts.{rfc3339_text}
use Rattle.rfc3339.specs.declared.parts.Parts.{Parts}
use Rattle.muxandu_c.specs.Exchange.{offset_has_no_text}
use Rattle.muxandu_c.specs.declared.refused.Refused.{Refused}
use Rattle.muxandu_c.specs.declared.refused.Refused.TheVariants as refused
use Rattle.muxandu_c.specs.declared.values.MuxanduDateTime.{MuxanduDateTime}

-- a date-time of this year at this offset has a text
abbrev pub has_text : ℤ → ℤ → Bool
has_text year offset = not (is_outside (pos 0) (pos 9_999) year || offset_has_no_text offset)

-- the numbers that the text spells
abbrev pub text_numbers : MuxanduDateTime → Parts
text_numbers v = record {
  year = unsigned_abs v.year;
  month = v.month;
  day = v.day;
  hour = v.hour;
  minute = v.minute;
  second = v.second;
  nanosecond = v.nanosecond;
  is_west = int_lt v.offset_seconds (pos 0);
  offset_hour = unsigned_abs v.offset_seconds / 3_600;
  offset_minute = unsigned_abs v.offset_seconds / 60 % 60;
}

abbrev pub numbers_of : MuxanduDateTime → Option Parts
numbers_of v = if has_text v.year v.offset_seconds then Some (text_numbers v) else None

-- each number is in its range
pub record AreWritable (p : Parts) : Type 0 where
  pub parts : AreInRange p
  pub year : p.year ≤ 9_999
  pub nanosecond : p.nanosecond ≤ 999_999_999

-- the text of the date-time that the numbers mean, if there are any
abbrev pub text_of_numbers : Option Parts → Result (List ℕ) Refused
text_of_numbers None = Err refused.NoText
text_of_numbers (Some p) = Ok (rfc3339_text (value_of p))

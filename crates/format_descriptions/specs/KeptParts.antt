-- The parts that stay where a group cannot be read: those that were known before it.
use Rattle.std.specs.Prelude.{◌≡◌, Bool, if◌then◌else◌, Option, None, is_some}
use Rattle.format_descriptions.specs.declared.kept_parts.KeptParts.{KeptParts}
use Rattle.format_descriptions.specs.declared.parts.Parts.{Parts}

-- a part, if it was known
abbrev pub part_if : {T : Type 0} → Bool → Option T → Option T
part_if is_known part = if is_known then part else None

-- which of the parts are known
abbrev pub kept_of : Parts → KeptParts
kept_of p = record {
  year = is_some p.year;
  year_century = is_some p.year_century;
  is_before_zero = is_some p.is_before_zero;
  year_last_two = is_some p.year_last_two;
  iso_year = is_some p.iso_year;
  iso_year_century = is_some p.iso_year_century;
  is_iso_before_zero = is_some p.is_iso_before_zero;
  iso_year_last_two = is_some p.iso_year_last_two;
  month = is_some p.month;
  day = is_some p.day;
  ordinal = is_some p.ordinal;
  weekday = is_some p.weekday;
  iso_week = is_some p.iso_week;
  sunday_week = is_some p.sunday_week;
  monday_week = is_some p.monday_week;
  hour = is_some p.hour;
  hour_12 = is_some p.hour_12;
  is_afternoon = is_some p.is_afternoon;
  minute = is_some p.minute;
  second = is_some p.second;
  nanosecond = is_some p.nanosecond;
  is_west = is_some p.is_west;
  offset_hour = is_some p.offset_hour;
  offset_minute = is_some p.offset_minute;
  offset_second = is_some p.offset_second;
  unix_second = is_some p.unix_second;
  unix_millisecond = is_some p.unix_millisecond;
  unix_microsecond = is_some p.unix_microsecond;
  unix_nanosecond = is_some p.unix_nanosecond;
}

-- the parts without those that were not known
abbrev pub parts_kept : KeptParts → Parts → Parts
parts_kept kept p = record {
  year = part_if kept.year p.year;
  year_century = part_if kept.year_century p.year_century;
  is_before_zero = part_if kept.is_before_zero p.is_before_zero;
  year_last_two = part_if kept.year_last_two p.year_last_two;
  iso_year = part_if kept.iso_year p.iso_year;
  iso_year_century = part_if kept.iso_year_century p.iso_year_century;
  is_iso_before_zero = part_if kept.is_iso_before_zero p.is_iso_before_zero;
  iso_year_last_two = part_if kept.iso_year_last_two p.iso_year_last_two;
  month = part_if kept.month p.month;
  day = part_if kept.day p.day;
  ordinal = part_if kept.ordinal p.ordinal;
  weekday = part_if kept.weekday p.weekday;
  iso_week = part_if kept.iso_week p.iso_week;
  sunday_week = part_if kept.sunday_week p.sunday_week;
  monday_week = part_if kept.monday_week p.monday_week;
  hour = part_if kept.hour p.hour;
  hour_12 = part_if kept.hour_12 p.hour_12;
  is_afternoon = part_if kept.is_afternoon p.is_afternoon;
  minute = part_if kept.minute p.minute;
  second = part_if kept.second p.second;
  nanosecond = part_if kept.nanosecond p.nanosecond;
  is_west = part_if kept.is_west p.is_west;
  offset_hour = part_if kept.offset_hour p.offset_hour;
  offset_minute = part_if kept.offset_minute p.offset_minute;
  offset_second = part_if kept.offset_second p.offset_second;
  unix_second = part_if kept.unix_second p.unix_second;
  unix_millisecond = part_if kept.unix_millisecond p.unix_millisecond;
  unix_microsecond = part_if kept.unix_microsecond p.unix_microsecond;
  unix_nanosecond = part_if kept.unix_nanosecond p.unix_nanosecond;
}

-- the parts that were known at any time before are the same after: the marks of that time restore them
abbrev pub Keeps : Parts → Parts → Type 0
Keeps before after = (p : Parts) → parts_kept (kept_of p) before ≡ p → parts_kept (kept_of p) after ≡ p

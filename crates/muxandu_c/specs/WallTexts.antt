-- The parts of the date-time that a text spells.
use Rattle.std.specs.Prelude.{pos}
use Rattle.rfc3339.specs.Meaning.{offset_of}
use Rattle.rfc3339.specs.declared.parts.Parts.{Parts}
use Rattle.muxandu_c.specs.declared.values.MuxanduDateTime.{MuxanduDateTime}

-- numbers as the parts of a date-time
abbrev pub spelled_parts : Parts → MuxanduDateTime
spelled_parts p = record {
  year = pos p.year;
  month = p.month;
  day = p.day;
  hour = p.hour;
  minute = p.minute;
  second = p.second;
  nanosecond = p.nanosecond;
  offset_seconds = offset_of p.is_west p.offset_hour p.offset_minute;
}

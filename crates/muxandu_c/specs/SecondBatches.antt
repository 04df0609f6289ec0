-- Date-times of Unix seconds, four at a time.
use Rattle.std.specs.Prelude.{ℕ, ℤ, ◌+◌, List, slice_set}
use Rattle.lanes.specs.DateTimes.{date_time_of}
use Rattle.lanes.specs.declared.date_times.DateTime.{DateTime}
use Rattle.muxandu_c.specs.declared.values.MuxanduDateTime.{MuxanduDateTime}

-- a date-time of the lanes as one that crosses
abbrev pub date_time_of_lane : DateTime → MuxanduDateTime
date_time_of_lane at = record {
  year = at.year;
  month = at.month;
  day = at.day;
  hour = at.hour;
  minute = at.minute;
  second = at.second;
  nanosecond = at.nanosecond;
  offset_seconds = at.offset_seconds;
}

-- the date-time that clocks at an offset show at a second that they count from 1970
abbrev pub date_time_at_offset : ℤ → ℤ → MuxanduDateTime
date_time_at_offset offset_seconds w = date_time_of_lane (date_time_of offset_seconds w)

-- the list with four values from a place on
abbrev pub with_four : {B : Type 0} → List B → ℕ → B → B → B → B → List B
with_four out place a b c d = slice_set (slice_set (slice_set (slice_set out place a) (place + 1) b) (place + 2) c) (place + 3) d

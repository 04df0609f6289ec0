-- Unix seconds of date-times, four at a time.
use Rattle.lanes.specs.declared.date_times.DateTime.{DateTime}
use Rattle.muxandu_c.specs.declared.values.MuxanduDateTime.{MuxanduDateTime}

-- a date-time that crosses as one of the lanes
abbrev pub lane_of_date_time : MuxanduDateTime → DateTime
lane_of_date_time at = record {
  year = at.year;
  month = at.month;
  day = at.day;
  hour = at.hour;
  minute = at.minute;
  second = at.second;
  nanosecond = at.nanosecond;
  offset_seconds = at.offset_seconds;
}

-- Dates of day numbers, four at a time.
use Rattle.lanes.specs.declared.dates.Date.{Date}
use Rattle.muxandu_c.specs.declared.values.MuxanduDate.{MuxanduDate}

-- a date of the lanes as one that crosses
abbrev pub date_of_lane : Date → MuxanduDate
date_of_lane date = record { year = date.year; month = date.month; day = date.day }

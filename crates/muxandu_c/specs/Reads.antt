-- All reads of a date, and the date of a Julian day.
use Rattle.std.specs.Prelude.{ℤ, Result, Ok}
use Rattle.calendar_values.specs.Calendar.{ordinal_of, julian_day_of}
use Rattle.calendar_values.specs.Constructors.{julian_date}
use Rattle.calendar_values.specs.Weeks.{iso_year_of, iso_week_of, weekday_of, sunday_week_of, monday_week_of}
use Rattle.muxandu_c.specs.Answers.{and_then, as_refused}
use Rattle.muxandu_c.specs.Values.{day_from_date, date_parts}
use Rattle.muxandu_c.specs.declared.refused.Refused.{Refused}
use Rattle.muxandu_c.specs.declared.reads.MuxanduDateReads.{MuxanduDateReads}
use Rattle.muxandu_c.specs.declared.values.MuxanduDate.{MuxanduDate}

-- the reads of a day
abbrev pub reads_of : ℤ → MuxanduDateReads
reads_of n = record {
  day = n;
  julian_day = julian_day_of n;
  iso_year = iso_year_of n;
  ordinal = ordinal_of n;
  iso_week = iso_week_of n;
  weekday = weekday_of n;
  sunday_based_week = sunday_week_of n;
  monday_based_week = monday_week_of n;
}

-- the reads of a date
abbrev pub date_reads : MuxanduDate → Result MuxanduDateReads Refused
date_reads v = and_then (day_from_date v) (λ n. Ok (reads_of n))

-- the date of a Julian day
abbrev pub date_from_julian_day : ℤ → Result MuxanduDate Refused
date_from_julian_day julian_day = and_then (as_refused (julian_date julian_day)) (λ n. Ok (date_parts n))

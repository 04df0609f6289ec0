-- Laws of calls that turn a value into another form and back: each call gives back what the other took.
-- A function of `src/laws.rt` proves each of them.
use Rattle.std.specs.Prelude.{◌≡◌, ℕ, ℤ, Ok, FitsSigned}
use Rattle.std.specs.Int.{w64}
use Rattle.calendar_values.specs.Durations.{IsDuration, IsDurationParts}
use Rattle.calendar_values.specs.Offsets.{AreSignedOffsetParts}
use Rattle.calendar_values.specs.WallClock.{IsInstant}
use Rattle.offset_times.specs.Local.{Local, IsLocal}
use Rattle.stamp_times.specs.Instants.{instant_of_microseconds}
use Rattle.muxandu_c.specs.Clocks.{time_value}
use Rattle.muxandu_c.specs.FullTimes.{time_parts}
use Rattle.muxandu_c.specs.LocalTexts.{time_of, at_offset}
use Rattle.muxandu_c.specs.Moments.{date_time_of_moment, moment_of_date_time, date_of_date_time}
use Rattle.muxandu_c.specs.OffsetParts.{offset_from_parts, offset_to_parts}
use Rattle.muxandu_c.specs.Reads.{date_reads, date_from_julian_day}
use Rattle.muxandu_c.specs.Storage.{timestamp_from_microseconds_2000, timestamp_to_microseconds_2000}
use Rattle.muxandu_c.specs.Values.{date_from_day, day_from_date, ordinal_date_from_day, day_from_ordinal_date, weekday_from_day}
use Rattle.muxandu_c.specs.Values.{date_time_value, date_time_parts, timestamp_value, timestamp_parts, duration_value, duration_parts}
use Rattle.muxandu_c.specs.Values.{date_time_from_timestamp, timestamp_from_date_time, date_time_day}
use Rattle.muxandu_c.specs.Values.{timestamp_from_milliseconds, timestamp_to_milliseconds, timestamp_to_microseconds, timestamp_to_nanoseconds}
use Rattle.muxandu_c.specs.Values.{timestamp_truncate}
use Rattle.muxandu_c.specs.WeekDates.{week_date_from_day, day_from_week_date}
use Rattle.muxandu_c.specs.declared.local_date_times.MuxanduTime.{MuxanduTime}
use Rattle.muxandu_c.specs.declared.moments.MuxanduMoment.{MuxanduMoment}
use Rattle.muxandu_c.specs.declared.offsets.MuxanduOffset.{MuxanduOffset}
use Rattle.muxandu_c.specs.declared.reads.MuxanduDateReads.{MuxanduDateReads}
use Rattle.muxandu_c.specs.declared.values.MuxanduDate.{MuxanduDate}
use Rattle.muxandu_c.specs.declared.values.MuxanduDateTime.{MuxanduDateTime}
use Rattle.muxandu_c.specs.declared.values.MuxanduDuration.{MuxanduDuration}
use Rattle.muxandu_c.specs.declared.values.MuxanduOrdinalDate.{MuxanduOrdinalDate}
use Rattle.muxandu_c.specs.declared.values.MuxanduTimestamp.{MuxanduTimestamp}
use Rattle.muxandu_c.specs.declared.values.MuxanduWeekDate.{MuxanduWeekDate}

-- the date of a day has that day, and the day of a date has that date
pub record DatesReadBack : Type 0 where
  pub date : (n : ℤ) (v : MuxanduDate) → date_from_day n ≡ Ok v → day_from_date v ≡ Ok n
  pub day : (v : MuxanduDate) (n : ℤ) → day_from_date v ≡ Ok n → date_from_day n ≡ Ok v

-- the same for a year and a day of the year
pub record OrdinalDatesReadBack : Type 0 where
  pub date : (n : ℤ) (v : MuxanduOrdinalDate) → ordinal_date_from_day n ≡ Ok v → day_from_ordinal_date v ≡ Ok n
  pub day : (v : MuxanduOrdinalDate) (n : ℤ) → day_from_ordinal_date v ≡ Ok n → ordinal_date_from_day n ≡ Ok v

-- the same for an ISO year, an ISO week and a day of the week
pub record WeekDatesReadBack : Type 0 where
  pub date : (n : ℤ) (v : MuxanduWeekDate) → week_date_from_day n ≡ Ok v → day_from_week_date v ≡ Ok n
  pub day : (v : MuxanduWeekDate) (n : ℤ) → day_from_week_date v ≡ Ok n → week_date_from_day n ≡ Ok v

-- the reads of a date are those of the calls that read one of them, and its Julian day gives the date back
pub record DateReadsAgree (v : MuxanduDate) (r : MuxanduDateReads) : Type 0 where
  pub day : day_from_date v ≡ Ok r.day
  pub julian_day : date_from_julian_day r.julian_day ≡ Ok v
  pub ordinal : ordinal_date_from_day r.day ≡ Ok (record { year = v.year; ordinal = r.ordinal })
  pub week : week_date_from_day r.day ≡ Ok (record { year = r.iso_year; week = r.iso_week; weekday = r.weekday })
  pub weekday : weekday_from_day r.day ≡ Ok r.weekday

pub record JulianDaysReadBack : Type 0 where
  pub date : (j : ℤ) (v : MuxanduDate) → date_from_julian_day j ≡ Ok v → (r : MuxanduDateReads) × (date_reads v ≡ Ok r) × (r.julian_day ≡ j)
  pub reads : (v : MuxanduDate) (r : MuxanduDateReads) → date_reads v ≡ Ok r → DateReadsAgree v r

-- the parts of a timestamp, of a date-time and of a duration read back: what a call writes is read as the value that it stands for
pub record TimestampsReadBack : Type 0 where
  pub written : (i : ℤ) → IsInstant i → timestamp_value (timestamp_parts i) ≡ Ok i
  pub read : (v : MuxanduTimestamp) (i : ℤ) → timestamp_value v ≡ Ok i → timestamp_parts i ≡ v

pub record DateTimesReadBack : Type 0 where
  pub written : (at : Local) → IsLocal at → date_time_value (date_time_parts at) ≡ Ok at
  pub read : (v : MuxanduDateTime) (at : Local) → date_time_value v ≡ Ok at → date_time_parts at ≡ v
  pub day : (v : MuxanduDateTime) (n : ℤ) → date_time_day v ≡ Ok n → date_from_day n ≡ Ok (date_of_date_time v)

pub record DurationsReadBack : Type 0 where
  pub written : (d : ℤ) → IsDuration d → duration_value (duration_parts d) ≡ Ok d
  pub read : (w : MuxanduDuration) (d : ℤ) → IsDurationParts w.seconds w.nanoseconds → duration_value w ≡ Ok d → duration_parts d ≡ w

-- the seconds of an offset have its hours, minutes and seconds, and parts of one sign have their seconds
pub record OffsetsReadBack : Type 0 where
  pub parts : (seconds : ℤ) (v : MuxanduOffset) → offset_to_parts seconds ≡ Ok v → offset_from_parts v ≡ Ok seconds
  pub seconds : (v : MuxanduOffset) (seconds : ℤ) → AreSignedOffsetParts v.hours v.minutes v.seconds
      → offset_from_parts v ≡ Ok seconds → offset_to_parts seconds ≡ Ok v

-- the timestamp of a count has this count, where the count fits
pub record CountsReadBack : Type 0 where
  pub milliseconds : (count : ℤ) (v : MuxanduTimestamp) → timestamp_from_milliseconds count ≡ Ok v → timestamp_to_milliseconds v ≡ Ok count
  pub microseconds : (count : ℤ) → FitsSigned w64 count → timestamp_to_microseconds (timestamp_parts (instant_of_microseconds count)) ≡ Ok count
  pub nanoseconds : (count : ℤ) → FitsSigned w64 count → timestamp_to_nanoseconds (timestamp_parts count) ≡ Ok count
  pub from_2000 : (count : ℤ) → FitsSigned w64 count → timestamp_to_microseconds_2000 (timestamp_from_microseconds_2000 count) ≡ Ok count

-- the count of a timestamp gives the timestamp back, rounded down to the unit of the count
pub record CountsRoundDown : Type 0 where
  pub milliseconds : (v : MuxanduTimestamp) (count : ℤ) → timestamp_to_milliseconds v ≡ Ok count
      → timestamp_from_milliseconds count ≡ timestamp_truncate v 5
  pub microseconds : (v : MuxanduTimestamp) (count : ℤ) → timestamp_to_microseconds v ≡ Ok count
      → timestamp_truncate v 6 ≡ Ok (timestamp_parts (instant_of_microseconds count))
  pub nanoseconds : (v : MuxanduTimestamp) (count : ℤ) → timestamp_to_nanoseconds v ≡ Ok count → timestamp_parts count ≡ v
  pub from_2000 : (v : MuxanduTimestamp) (count : ℤ) → timestamp_to_microseconds_2000 v ≡ Ok count
      → timestamp_truncate v 6 ≡ Ok (timestamp_from_microseconds_2000 count)

-- the date-time that clocks at an offset show at a timestamp has that timestamp, and that offset;
-- the timestamp of a date-time gives the date-time back at its offset
pub record ShownTimestampsReadBack : Type 0 where
  pub date_time : (v : MuxanduTimestamp) (o : ℤ) (w : MuxanduDateTime) → date_time_from_timestamp v o ≡ Ok w
      → (timestamp_from_date_time w ≡ Ok v) × (w.offset_seconds ≡ o)
  pub timestamp : (w : MuxanduDateTime) (v : MuxanduTimestamp) → timestamp_from_date_time w ≡ Ok v
      → date_time_from_timestamp v w.offset_seconds ≡ Ok w

-- the same for a moment
pub record MomentsReadBack : Type 0 where
  pub date_time : (v : MuxanduMoment) (w : MuxanduDateTime) → date_time_of_moment v ≡ Ok w → moment_of_date_time w ≡ Ok v
  pub moment : (w : MuxanduDateTime) (v : MuxanduMoment) → moment_of_date_time w ≡ Ok v → date_time_of_moment v ≡ Ok w

-- the parts of a time of day read back, also those of a date-time; clocks at another offset are the same clocks
pub record TimesReadBack : Type 0 where
  pub time : (v : MuxanduTime) (c : ℕ) → time_value v.hour v.minute v.second v.nanosecond ≡ Ok c → time_parts c ≡ v
  pub date_time : (v : MuxanduDateTime) (c : ℕ) → time_value v.hour v.minute v.second v.nanosecond ≡ Ok c → time_parts c ≡ time_of v
  pub offset : (v : MuxanduDateTime) (o : ℤ) → (at_offset o v).offset_seconds ≡ o
  pub back : (v : MuxanduDateTime) (o : ℤ) → at_offset v.offset_seconds (at_offset o v) ≡ v

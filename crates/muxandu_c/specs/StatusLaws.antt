-- Laws of statuses: which error a call returns for which parts, in the ranges of the calendar and of the constructors of the library.
-- A function of `src/laws.rt` proves each of them.
use Rattle.std.specs.Prelude.{◌≡◌, ◌≢◌, ◌⊎◌, ℕ, ◌<◌, ◌≤◌, ℤ, pos, neg_ℤ, ◌-ℤ◌, ◌<ℤ◌, unsigned_abs, Some, Result, Ok, Err}
use Rattle.calendar_values.specs.Calendar.{is_leap_year, days_in_month, days_in_year, day_of_calendar_date, day_of_ordinal_date, epoch_julian_day}
use Rattle.calendar_values.specs.Clock.{AreTimeParts, clock_of_parts}
use Rattle.calendar_values.specs.Durations.{IsDuration, duration_of_parts}
use Rattle.calendar_values.specs.Offsets.{IsOffset}
use Rattle.calendar_values.specs.Range.{first_year, last_year, IsYear, IsDay}
use Rattle.calendar_values.specs.WallClock.{IsInstant}
use Rattle.calendar_values.specs.Weeks.{weeks_in_year, day_of_iso_week_date}
use Rattle.stamp_times.specs.Instants.{instant_of_parts, instant_of_milliseconds}
use Rattle.utc_times.specs.UnixTime.{instant_of_second}
use Rattle.muxandu_c.specs.Answers.{status_number, status_of, value_or}
use Rattle.muxandu_c.specs.Clocks.{time_value}
use Rattle.muxandu_c.specs.Moments.{date_of_date_time}
use Rattle.muxandu_c.specs.OffsetParts.{offset_from_parts, offset_to_parts}
use Rattle.muxandu_c.specs.PartsReplaced.{part_numbered}
use Rattle.muxandu_c.specs.Reads.{date_from_julian_day}
use Rattle.muxandu_c.specs.StatusTexts.{refused_numbered}
use Rattle.muxandu_c.specs.Values.{day_from_date, day_from_ordinal_date, date_from_day, timestamp_value, duration_value, date_time_value}
use Rattle.muxandu_c.specs.Values.{timestamp_from_milliseconds, unit_numbered}
use Rattle.muxandu_c.specs.WeekDates.{day_from_week_date}
use Rattle.muxandu_c.specs.declared.offsets.MuxanduOffset.{MuxanduOffset}
use Rattle.muxandu_c.specs.declared.refused.Refused.{Refused}
use Rattle.muxandu_c.specs.declared.refused.Refused.TheVariants as refused
use Rattle.muxandu_c.specs.declared.values.MuxanduDate.{MuxanduDate}
use Rattle.muxandu_c.specs.declared.values.MuxanduDateTime.{MuxanduDateTime}
use Rattle.muxandu_c.specs.declared.values.MuxanduDuration.{MuxanduDuration}
use Rattle.muxandu_c.specs.declared.values.MuxanduOrdinalDate.{MuxanduOrdinalDate}
use Rattle.muxandu_c.specs.declared.values.MuxanduTimestamp.{MuxanduTimestamp}
use Rattle.muxandu_c.specs.declared.values.MuxanduWeekDate.{MuxanduWeekDate}

-- the number of an error is that of no other
pub record ErrorsHaveNumbers : Type 0 where
  pub error : (e : Refused) → refused_numbered (status_number e) ≡ Some e
  pub number : (n : ℕ) (e : Refused) → refused_numbered n ≡ Some e → status_number e ≡ n

-- the status is 0 exactly if there is a value, which is then in its place; after an error the place is as it was
pub record StatusesTell (A : Type 0) : Type 0 where
  pub zero : (r : Result A Refused) → status_of r ≡ 0 → (x : A) × (r ≡ Ok x)
  pub value : (r : Result A Refused) (there x : A) → r ≡ Ok x → (status_of r ≡ 0) × (value_or r there ≡ x)
  pub error : (r : Result A Refused) (there : A) (e : Refused) → r ≡ Err e → (status_of r ≢ 0) × (value_or r there ≡ there)

-- a year before the range or after it
abbrev pub IsYearOutside : ℤ → Type 0
IsYearOutside y = (y <ℤ first_year) ⊎ (last_year <ℤ y)

-- a month, 1 to 12
abbrev pub IsMonth : ℕ → Type 0
IsMonth m = (1 ≤ m) × (m ≤ 12)

-- the month is tested first, then the year, then the day, and then whether the month has the day
pub record DateErrors : Type 0 where
  pub month : (v : MuxanduDate) → (v.month ≡ 0) ⊎ (12 < v.month) → day_from_date v ≡ Err refused.Month
  pub year : (v : MuxanduDate) → IsMonth v.month → IsYearOutside v.year → day_from_date v ≡ Err refused.Year
  pub day : (v : MuxanduDate) → IsMonth v.month → IsYear v.year → (v.day ≡ 0) ⊎ (31 < v.day) → day_from_date v ≡ Err refused.Day
  pub day_of_month : (v : MuxanduDate) → IsMonth v.month → IsYear v.year → days_in_month (is_leap_year v.year) v.month < v.day → v.day ≤ 31
      → day_from_date v ≡ Err refused.DayOfMonth
  pub none : (v : MuxanduDate) → IsMonth v.month → IsYear v.year → 1 ≤ v.day → v.day ≤ days_in_month (is_leap_year v.year) v.month
      → day_from_date v ≡ Ok (day_of_calendar_date v.year v.month v.day)

-- the year is tested before the day of the year
pub record OrdinalDateErrors : Type 0 where
  pub year : (v : MuxanduOrdinalDate) → IsYearOutside v.year → day_from_ordinal_date v ≡ Err refused.Year
  pub ordinal : (v : MuxanduOrdinalDate) → IsYear v.year → (v.ordinal ≡ 0) ⊎ (366 < v.ordinal) → day_from_ordinal_date v ≡ Err refused.Ordinal
  pub ordinal_of_year : (v : MuxanduOrdinalDate) → IsYear v.year → days_in_year v.year < v.ordinal → v.ordinal ≤ 366
      → day_from_ordinal_date v ≡ Err refused.OrdinalOfYear
  pub none : (v : MuxanduOrdinalDate) → IsYear v.year → 1 ≤ v.ordinal → v.ordinal ≤ days_in_year v.year
      → day_from_ordinal_date v ≡ Ok (day_of_ordinal_date v.year v.ordinal)

-- the ISO year is tested first, then the ISO week, then the day of the week, and then whether the ISO year has the week
pub record WeekDateErrors : Type 0 where
  pub year : (v : MuxanduWeekDate) → IsYearOutside v.year → day_from_week_date v ≡ Err refused.Year
  pub week : (v : MuxanduWeekDate) → IsYear v.year → (v.week ≡ 0) ⊎ (53 < v.week) → day_from_week_date v ≡ Err refused.Week
  pub weekday : (v : MuxanduWeekDate) → IsYear v.year → 1 ≤ v.week → v.week ≤ 53 → 6 < v.weekday → day_from_week_date v ≡ Err refused.Weekday
  pub week_of_year : (v : MuxanduWeekDate) → IsYear v.year → weeks_in_year v.year < v.week → v.week ≤ 53 → v.weekday ≤ 6
      → day_from_week_date v ≡ Err refused.WeekOfYear
  pub none : (v : MuxanduWeekDate) → IsYear v.year → 1 ≤ v.week → v.week ≤ weeks_in_year v.year → v.weekday ≤ 6
      → IsDay (day_of_iso_week_date v.year v.week v.weekday) → day_from_week_date v ≡ Ok (day_of_iso_week_date v.year v.week v.weekday)

-- the parts of a time of day are tested in their order
pub record TimeErrors : Type 0 where
  pub hour : (h m s n : ℕ) → 23 < h → time_value h m s n ≡ Err refused.Hour
  pub minute : (h m s n : ℕ) → h ≤ 23 → 59 < m → time_value h m s n ≡ Err refused.Minute
  pub second : (h m s n : ℕ) → h ≤ 23 → m ≤ 59 → 59 < s → time_value h m s n ≡ Err refused.Second
  pub nanosecond : (h m s n : ℕ) → h ≤ 23 → m ≤ 59 → s ≤ 59 → 999_999_999 < n → time_value h m s n ≡ Err refused.Nanosecond
  pub none : (h m s n : ℕ) → AreTimeParts h m s n → time_value h m s n ≡ Ok (clock_of_parts h m s n)

-- an offset in seconds has one error, and its parts are tested in their order
pub record OffsetErrors : Type 0 where
  pub before : (o : ℤ) → o <ℤ neg_ℤ (pos 93_599) → offset_to_parts o ≡ Err refused.OffsetSeconds
  pub after : (o : ℤ) → pos 93_599 <ℤ o → offset_to_parts o ≡ Err refused.OffsetSeconds
  pub none : (o : ℤ) → IsOffset o → (v : MuxanduOffset) × (offset_to_parts o ≡ Ok v)
  pub hours : (v : MuxanduOffset) → 25 < unsigned_abs v.hours → offset_from_parts v ≡ Err refused.OffsetHour
  pub minutes : (v : MuxanduOffset) → unsigned_abs v.hours ≤ 25 → 59 < unsigned_abs v.minutes → offset_from_parts v ≡ Err refused.OffsetMinute
  pub seconds : (v : MuxanduOffset) → unsigned_abs v.hours ≤ 25 → unsigned_abs v.minutes ≤ 59 → 59 < unsigned_abs v.seconds
      → offset_from_parts v ≡ Err refused.OffsetSeconds

-- the second of a timestamp is tested before its nanoseconds; the parts of a duration have one sum
pub record TimestampErrors : Type 0 where
  pub second : (v : MuxanduTimestamp) → ¬ IsInstant (instant_of_second v.seconds) → timestamp_value v ≡ Err refused.Timestamp
  pub nanosecond : (v : MuxanduTimestamp) → IsInstant (instant_of_second v.seconds) → 999_999_999 < v.nanoseconds
      → timestamp_value v ≡ Err refused.Nanosecond
  pub none : (v : MuxanduTimestamp) → IsInstant (instant_of_second v.seconds) → v.nanoseconds ≤ 999_999_999
      → timestamp_value v ≡ Ok (instant_of_parts v.seconds v.nanoseconds)
  pub milliseconds : (count : ℤ) → ¬ IsInstant (instant_of_milliseconds count) → timestamp_from_milliseconds count ≡ Err refused.Timestamp
  pub duration : (w : MuxanduDuration) → ¬ IsDuration (duration_of_parts w.seconds w.nanoseconds) → duration_value w ≡ Err refused.Duration

-- the date of a date-time is tested first, then its time of day, and then its offset
pub record DateTimeErrors : Type 0 where
  pub date : (v : MuxanduDateTime) (e : Refused) → day_from_date (date_of_date_time v) ≡ Err e → date_time_value v ≡ Err e
  pub time : (v : MuxanduDateTime) (n : ℤ) (e : Refused) → day_from_date (date_of_date_time v) ≡ Ok n
      → time_value v.hour v.minute v.second v.nanosecond ≡ Err e → date_time_value v ≡ Err e
  pub offset : (v : MuxanduDateTime) (n : ℤ) (c : ℕ) (e : Refused) → day_from_date (date_of_date_time v) ≡ Ok n
      → time_value v.hour v.minute v.second v.nanosecond ≡ Ok c → offset_to_parts v.offset_seconds ≡ Err e → date_time_value v ≡ Err e

-- a day number, a Julian day, and the numbers of units and parts
pub record NumberErrors : Type 0 where
  pub day : (n : ℤ) → ¬ IsDay n → date_from_day n ≡ Err refused.DayNumber
  pub julian_day : (j : ℤ) → ¬ IsDay (j -ℤ epoch_julian_day) → date_from_julian_day j ≡ Err refused.DayNumber
  pub unit : (n : ℕ) → (n ≡ 0) ⊎ (7 < n) → unit_numbered n ≡ Err refused.Unit
  pub part : (n : ℕ) → (n ≡ 0) ⊎ (8 < n) → part_numbered n ≡ Err refused.Unit

-- Laws of truncations, replaced parts, and dates some days or months later, in the parts that a caller sees.
-- A function of `src/laws.rt` proves each of them.
use Rattle.std.specs.Prelude.{◌≡◌, ◌⊎◌, ℕ, ◌*◌, ◌/◌, ◌<◌, ◌≤◌, ℤ, pos, ◌+ℤ◌, ◌*ℤ◌, Ok}
use Rattle.muxandu_c.specs.DateSums.{date_add_days, date_add_months}
use Rattle.muxandu_c.specs.Moments.{date_time_of_moment, date_of_date_time, moment_truncate, moment_add_months}
use Rattle.muxandu_c.specs.PartsReplaced.{date_time_replace, timestamp_replace}
use Rattle.muxandu_c.specs.Storage.{timestamp_truncate_digits}
use Rattle.muxandu_c.specs.Values.{date_time_truncate, timestamp_truncate, date_time_from_timestamp, day_from_date, day_from_ordinal_date, length_of_month}
use Rattle.muxandu_c.specs.declared.moments.MuxanduMoment.{MuxanduMoment}
use Rattle.muxandu_c.specs.declared.values.MuxanduDate.{MuxanduDate}
use Rattle.muxandu_c.specs.declared.values.MuxanduDateTime.{MuxanduDateTime}
use Rattle.muxandu_c.specs.declared.values.MuxanduTimestamp.{MuxanduTimestamp}

-- a date-time truncated to a unit, by its number, has 0 for each smaller part, and keeps all others
pub record TruncationsClearParts : Type 0 where
  pub day : (v u : MuxanduDateTime) → date_time_truncate v 1 ≡ Ok u → u ≡ record v { hour = 0; minute = 0; second = 0; nanosecond = 0 }
  pub hour : (v u : MuxanduDateTime) → date_time_truncate v 2 ≡ Ok u → u ≡ record v { minute = 0; second = 0; nanosecond = 0 }
  pub minute : (v u : MuxanduDateTime) → date_time_truncate v 3 ≡ Ok u → u ≡ record v { second = 0; nanosecond = 0 }
  pub second : (v u : MuxanduDateTime) → date_time_truncate v 4 ≡ Ok u → u ≡ record v { nanosecond = 0 }
  pub millisecond : (v u : MuxanduDateTime) → date_time_truncate v 5 ≡ Ok u → u ≡ record v { nanosecond = v.nanosecond / 1_000_000 * 1_000_000 }
  pub microsecond : (v u : MuxanduDateTime) → date_time_truncate v 6 ≡ Ok u → u ≡ record v { nanosecond = v.nanosecond / 1_000 * 1_000 }
  pub nanosecond : (v u : MuxanduDateTime) → date_time_truncate v 7 ≡ Ok u → u ≡ v

-- the digits of the fraction that a timestamp keeps are those of a unit: 0 of the second, 3, 6 and 9 of smaller ones
pub record DigitsAreUnits : Type 0 where
  pub second : (v : MuxanduTimestamp) → timestamp_truncate_digits v 0 ≡ timestamp_truncate v 4
  pub millisecond : (v : MuxanduTimestamp) → timestamp_truncate_digits v 3 ≡ timestamp_truncate v 5
  pub microsecond : (v : MuxanduTimestamp) → timestamp_truncate_digits v 6 ≡ timestamp_truncate v 6
  pub nanosecond : (v : MuxanduTimestamp) → timestamp_truncate_digits v 9 ≡ timestamp_truncate v 7

-- a timestamp truncated to a unit is what clocks in UTC show, truncated, and a moment what its own clocks show
pub record TruncationsAreThoseOfClocks : Type 0 where
  pub timestamp : (v u : MuxanduTimestamp) (a : MuxanduDateTime) (unit : ℕ) → timestamp_truncate v unit ≡ Ok u → date_time_from_timestamp v (pos 0) ≡ Ok a
      → date_time_truncate a unit ≡ date_time_from_timestamp u (pos 0)
  pub moment : (v u : MuxanduMoment) (a : MuxanduDateTime) (unit : ℕ) → moment_truncate unit v ≡ Ok u → date_time_of_moment v ≡ Ok a
      → date_time_truncate a unit ≡ date_time_of_moment u

-- a date-time with a part replaced, by the number of the part, has this part, and keeps all others
pub record ReplacementsKeepOtherParts : Type 0 where
  pub year : (v w : MuxanduDateTime) (y : ℤ) → date_time_replace v 1 y ≡ Ok w → w ≡ record v { year = y }
  pub month : (v w : MuxanduDateTime) (m : ℕ) → date_time_replace v 2 (pos m) ≡ Ok w → w ≡ record v { month = m }
  pub day : (v w : MuxanduDateTime) (d : ℕ) → date_time_replace v 3 (pos d) ≡ Ok w → w ≡ record v { day = d }
  pub ordinal : (v w : MuxanduDateTime) (o : ℕ) → date_time_replace v 4 (pos o) ≡ Ok w
      → (w ≡ record v { year = w.year; month = w.month; day = w.day })
      × (day_from_date (date_of_date_time w) ≡ day_from_ordinal_date (record { year = v.year; ordinal = o }))
  pub hour : (v w : MuxanduDateTime) (h : ℕ) → date_time_replace v 5 (pos h) ≡ Ok w → w ≡ record v { hour = h }
  pub minute : (v w : MuxanduDateTime) (m : ℕ) → date_time_replace v 6 (pos m) ≡ Ok w → w ≡ record v { minute = m }
  pub second : (v w : MuxanduDateTime) (s : ℕ) → date_time_replace v 7 (pos s) ≡ Ok w → w ≡ record v { second = s }
  pub nanosecond : (v w : MuxanduDateTime) (n : ℕ) → date_time_replace v 8 (pos n) ≡ Ok w → w ≡ record v { nanosecond = n }

-- a timestamp with a part replaced is what clocks in UTC show, with this part replaced
abbrev pub ReplacementsAreThoseOfUtc : Type 0
ReplacementsAreThoseOfUtc = (v u : MuxanduTimestamp) (a : MuxanduDateTime) (part : ℕ) (value : ℤ) → timestamp_replace v part value ≡ Ok u
    → date_time_from_timestamp v (pos 0) ≡ Ok a → date_time_replace a part value ≡ date_time_from_timestamp u (pos 0)

-- a date some days later has a day number that is greater by the days
abbrev pub DaysAreAdded : Type 0
DaysAreAdded = (v w : MuxanduDate) (days n : ℤ) → date_add_days v days ≡ Ok w → day_from_date v ≡ Ok n → day_from_date w ≡ Ok (n +ℤ days)

-- a month has each day from 1 to its length, and no other
pub record LengthsOfMonths : Type 0 where
  pub each : (y : ℤ) (m length d : ℕ) → length_of_month y m ≡ Ok length → 1 ≤ d → d ≤ length
      → (n : ℤ) × (day_from_date (record { year = y; month = m; day = d }) ≡ Ok n)
  pub only : (y n : ℤ) (m length d : ℕ) → length_of_month y m ≡ Ok length → day_from_date (record { year = y; month = m; day = d }) ≡ Ok n
      → (1 ≤ d) × (d ≤ length)

-- the number of a month, counted from one year to the next
abbrev pub month_count : MuxanduDate → ℤ
month_count v = (v.year *ℤ pos 12) +ℤ pos v.month

-- a date some months later is a date of the month so many months later, with the same day, or the last of a shorter month
pub record IsMonthsLater (v : MuxanduDate) (months : ℤ) (w : MuxanduDate) : Type 0 where
  pub month : month_count w ≡ month_count v +ℤ months
  pub day : (w.day ≡ v.day) ⊎ ((w.day < v.day) × (length_of_month w.year w.month ≡ Ok w.day))
  pub is_date : (n : ℤ) × (day_from_date w ≡ Ok n)

pub record MonthsAreAdded : Type 0 where
  pub date : (v w : MuxanduDate) (months : ℤ) → date_add_months v months ≡ Ok w → IsMonthsLater v months w
  pub moment : (v u : MuxanduMoment) (a : MuxanduDateTime) (months : ℤ) → moment_add_months months v ≡ Ok u → date_time_of_moment v ≡ Ok a
      → (date : MuxanduDate) × ((date_add_months (date_of_date_time a) months ≡ Ok date)
      × (date_time_of_moment u ≡ Ok (record a { year = date.year; month = date.month; day = date.day })))

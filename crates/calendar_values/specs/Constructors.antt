-- The outcome of the parts of a date or of a time of day: its number, or the error for a part.
use Rattle.std.specs.Prelude.{ℕ, ◌*◌, ◌||◌, ◌==◌, List, Result, Ok, Err, if◌then◌else◌, nat_lt, ℤ, ◌-ℤ◌, codes}
use Rattle.calendar_values.specs.Calendar.{epoch_julian_day, is_leap_year, days_in_year, days_in_month, day_of_calendar_date, day_of_ordinal_date}
use Rattle.calendar_values.specs.Clock.{nanos_per_microsecond, nanos_per_millisecond, clock_of_parts, AreTimeParts}
use Rattle.calendar_values.specs.Outcomes.{Outcome}
use Rattle.calendar_values.specs.Range.{first_year, last_year, first_day, last_day, is_outside, IsDay}
use Rattle.calendar_values.specs.Refusals.{Refusal, IsDateOfRange, IsOrdinalDateOfRange, IsIsoWeekDateOfRange}
use Rattle.calendar_values.specs.Refusals.{date_refusal, ordinal_refusal, iso_week_date_refusal, clock_refusal, outright_refusal}
use Rattle.calendar_values.specs.Weeks.{weeks_in_year, day_of_iso_week_date}

-- the day of a year, a month and a day of the month, or the error for one of them
unfoldable pub calendar_date : ℤ → ℕ → ℕ → Result ℤ Refusal
calendar_date y m d =
    if is_outside first_year last_year y || (d == 0 || nat_lt (days_in_month (is_leap_year y) m) d) then Err (date_refusal y d)
    else Ok (day_of_calendar_date y m d)

-- the outcome of a year, a month and a day of the month
abbrev pub calendar_date_outcome : ℤ → ℕ → ℕ → Outcome ℤ
calendar_date_outcome y m d = record {
  fits = IsDateOfRange y m d;
  value = day_of_calendar_date y m d;
  refusal = date_refusal y d;
  answer = calendar_date y m d;
}

-- the day of a year and a day of the year, or the error for one of them
unfoldable pub ordinal_date : ℤ → ℕ → Result ℤ Refusal
ordinal_date y ordinal =
    if is_outside first_year last_year y || (ordinal == 0 || nat_lt (days_in_year y) ordinal) then Err (ordinal_refusal y ordinal)
    else Ok (day_of_ordinal_date y ordinal)

-- the outcome of a year and a day of the year
abbrev pub ordinal_date_outcome : ℤ → ℕ → Outcome ℤ
ordinal_date_outcome y ordinal = record {
  fits = IsOrdinalDateOfRange y ordinal;
  value = day_of_ordinal_date y ordinal;
  refusal = ordinal_refusal y ordinal;
  answer = ordinal_date y ordinal;
}

-- the day of an ISO year, an ISO week and a day of the week, or the error for the year or the week
unfoldable pub iso_week_date : ℤ → ℕ → ℕ → Result ℤ Refusal
iso_week_date y week weekday =
    if is_outside first_year last_year y || ((week == 0 || nat_lt (weeks_in_year y) week)
    || is_outside first_day last_day (day_of_iso_week_date y week weekday)) then Err (iso_week_date_refusal y week)
    else Ok (day_of_iso_week_date y week weekday)

-- the outcome of an ISO year, an ISO week and a day of the week
abbrev pub iso_week_date_outcome : ℤ → ℕ → ℕ → Outcome ℤ
iso_week_date_outcome y week weekday = record {
  fits = IsIsoWeekDateOfRange y week weekday;
  value = day_of_iso_week_date y week weekday;
  refusal = iso_week_date_refusal y week;
  answer = iso_week_date y week weekday;
}

-- the day of a Julian day, or the error for it
unfoldable pub julian_date : ℤ → Result ℤ Refusal
julian_date julian_day =
    if is_outside first_day last_day (julian_day -ℤ epoch_julian_day) then Err (outright_refusal (codes "julian_day"))
    else Ok (julian_day -ℤ epoch_julian_day)

-- the outcome of a Julian day
abbrev pub julian_date_outcome : ℤ → Outcome ℤ
julian_date_outcome julian_day = record {
  fits = IsDay (julian_day -ℤ epoch_julian_day);
  value = julian_day -ℤ epoch_julian_day;
  refusal = outright_refusal (codes "julian_day");
  answer = julian_date julian_day;
}

-- the clock of an hour, a minute, a second and a part of the second, or the error for one of them;
-- the part of the second makes n nanoseconds, and has a name and a limit
unfoldable pub clock_with : ℕ → ℕ → ℕ → List ℕ → ℕ → ℕ → ℕ → Result ℕ Refusal
clock_with h m s name limit part n =
    if nat_lt 23 h || (nat_lt 59 m || (nat_lt 59 s || nat_lt limit part)) then Err (clock_refusal h m s name)
    else Ok (clock_of_parts h m s n)

-- the outcome of an hour, a minute, a second and a part of the second that makes n nanoseconds
abbrev pub clock_outcome : ℕ → ℕ → ℕ → List ℕ → ℕ → ℕ → ℕ → Outcome ℕ
clock_outcome h m s name limit part n = record {
  fits = AreTimeParts h m s n;
  value = clock_of_parts h m s n;
  refusal = clock_refusal h m s name;
  answer = clock_with h m s name limit part n;
}

-- the outcome of an hour, a minute and a second
abbrev pub hms_outcome : ℕ → ℕ → ℕ → Outcome ℕ
hms_outcome h m s = clock_outcome h m s (codes "second") 59 s 0

-- the outcomes of an hour, a minute and a second, with a millisecond, a microsecond or a nanosecond of the second
abbrev pub hms_milli_outcome : ℕ → ℕ → ℕ → ℕ → Outcome ℕ
hms_milli_outcome h m s milli =
    clock_outcome h m s (codes "millisecond") 999 milli (milli * nanos_per_millisecond)

abbrev pub hms_micro_outcome : ℕ → ℕ → ℕ → ℕ → Outcome ℕ
hms_micro_outcome h m s micro =
    clock_outcome h m s (codes "microsecond") 999_999 micro (micro * nanos_per_microsecond)

abbrev pub hms_nano_outcome : ℕ → ℕ → ℕ → ℕ → Outcome ℕ
hms_nano_outcome h m s n = clock_outcome h m s (codes "nanosecond") 999_999_999 n n

-- the clock of an hour, a minute, a second and a nanosecond of the second, or the error for one of them
abbrev pub clock_time_nano : ℕ → ℕ → ℕ → ℕ → Result ℕ Refusal
clock_time_nano h m s n = (hms_nano_outcome h m s n).answer

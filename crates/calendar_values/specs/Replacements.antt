-- The outcome of a date or a clock with one part replaced: the one with the other parts as before, or the error.
use Rattle.std.specs.Prelude.{ℕ, ◌≤◌, ◌*◌, ℤ, codes}
use Rattle.calendar_values.specs.Calendar.{year_of, month_of, day_of_month_of, is_leap_year, days_in_month, days_in_year, day_of_calendar_date}
use Rattle.calendar_values.specs.Calendar.{day_of_ordinal_date}
use Rattle.calendar_values.specs.Clock.{nanos_per_microsecond, nanos_per_millisecond, clock_of_parts, hour_of, minute_of, second_of, nanosecond_of}
use Rattle.calendar_values.specs.Constructors.{calendar_date, ordinal_date, calendar_date_outcome}
use Rattle.calendar_values.specs.Outcomes.{Outcome, at_most}
use Rattle.calendar_values.specs.Refusals.{date_refusal, ordinal_refusal, conditional_refusal}

-- the outcome of another year, with the month and the day of the month kept
abbrev pub year_outcome : ℤ → ℤ → Outcome ℤ
year_outcome n y = calendar_date_outcome y (month_of n) (day_of_month_of n)

-- the outcome of another month, with the year and the day of the month kept
abbrev pub month_outcome : ℤ → ℕ → Outcome ℤ
month_outcome n m = record {
  fits = day_of_month_of n ≤ days_in_month (is_leap_year (year_of n)) m;
  value = day_of_calendar_date (year_of n) m (day_of_month_of n);
  refusal = conditional_refusal (codes "day");
  answer = calendar_date (year_of n) m (day_of_month_of n);
}

-- the outcome of another day of the month, with the year and the month kept
abbrev pub day_outcome : ℤ → ℕ → Outcome ℤ
day_outcome n d = record {
  fits = (1 ≤ d) × (d ≤ days_in_month (is_leap_year (year_of n)) (month_of n));
  value = day_of_calendar_date (year_of n) (month_of n) d;
  refusal = date_refusal (year_of n) d;
  answer = calendar_date (year_of n) (month_of n) d;
}

-- the outcome of another day of the year, with the year kept
abbrev pub ordinal_outcome : ℤ → ℕ → Outcome ℤ
ordinal_outcome n ordinal = record {
  fits = (1 ≤ ordinal) × (ordinal ≤ days_in_year (year_of n));
  value = day_of_ordinal_date (year_of n) ordinal;
  refusal = ordinal_refusal (year_of n) ordinal;
  answer = ordinal_date (year_of n) ordinal;
}

-- the outcome of another hour, with the minute, the second and the nanosecond kept
abbrev pub hour_outcome : ℕ → ℕ → Outcome ℕ
hour_outcome c h = at_most 23 (codes "hour") h (clock_of_parts h (minute_of c) (second_of c) (nanosecond_of c))

-- the outcome of another minute, with the hour, the second and the nanosecond kept
abbrev pub minute_outcome : ℕ → ℕ → Outcome ℕ
minute_outcome c m = at_most 59 (codes "minute") m (clock_of_parts (hour_of c) m (second_of c) (nanosecond_of c))

-- the outcome of another second, with the hour, the minute and the nanosecond kept
abbrev pub second_outcome : ℕ → ℕ → Outcome ℕ
second_outcome c s = at_most 59 (codes "second") s (clock_of_parts (hour_of c) (minute_of c) s (nanosecond_of c))

-- the outcome of another millisecond of the second, with the hour, the minute and the second kept, and the finer parts 0
abbrev pub millisecond_outcome : ℕ → ℕ → Outcome ℕ
millisecond_outcome c milli =
    at_most 999 (codes "millisecond") milli (clock_of_parts (hour_of c) (minute_of c) (second_of c) (milli * nanos_per_millisecond))

-- the outcome of another microsecond of the second, with the hour, the minute and the second kept, and the finer parts 0
abbrev pub microsecond_outcome : ℕ → ℕ → Outcome ℕ
microsecond_outcome c micro =
    at_most 999_999 (codes "microsecond") micro (clock_of_parts (hour_of c) (minute_of c) (second_of c) (micro * nanos_per_microsecond))

-- the outcome of another nanosecond of the second, with the hour, the minute and the second kept
abbrev pub nanosecond_outcome : ℕ → ℕ → Outcome ℕ
nanosecond_outcome c n =
    at_most 999_999_999 (codes "nanosecond") n (clock_of_parts (hour_of c) (minute_of c) (second_of c) n)

-- The date-time that clocks show at a second, counted from 1970.
use Rattle.std.specs.Prelude.{ℕ, ℤ, pos, ◌+◌, ◌-◌, ◌*◌, ◌/◌, ◌%◌, ◌^◌, ◌+ℤ◌, ◌*ℤ◌, ◌≤ℤ◌, unsigned_abs}
use Rattle.std.specs.Int.{w32, cast_signed, int_div_euclid, int_rem_euclid}
use Rattle.calendar_values.specs.Calendar.{year_of, month_of, day_of_month_of, month_of_ordinal, day_of_ordinal}
use Rattle.calendar_values.specs.Range.{first_day, last_day}
use Rattle.calendar_values.specs.Reciprocal.{step_year, step_leap, step_ordinal}
use Rattle.lanes.specs.declared.date_times.DateTime.{DateTime}

-- a second of a day of the range
abbrev pub IsWallSecond : ℤ → Type 0
IsWallSecond w = ((first_day *ℤ pos 86_400) ≤ℤ w) × (w ≤ℤ ((last_day *ℤ pos 86_400) +ℤ pos 86_399))

-- the day of a second
abbrev pub day_of_second : ℤ → ℤ
day_of_second w = int_div_euclid w (pos 86_400)

-- the second of the day, from its midnight on
abbrev pub second_of_day : ℤ → ℕ
second_of_day w = unsigned_abs (int_rem_euclid w (pos 86_400))

-- the date-time that clocks at an offset show at a second
abbrev pub date_time_of : ℤ → ℤ → DateTime
date_time_of offset_seconds w = record {
  year = year_of (day_of_second w);
  month = month_of (day_of_second w);
  day = day_of_month_of (day_of_second w);
  hour = second_of_day w / 60 / 60;
  minute = second_of_day w / 60 % 60;
  second = second_of_day w % 60;
  nanosecond = 0;
  offset_seconds = offset_seconds;
}

-- the second, counted from 1 January of the year -2379600
abbrev pub shifted_second : ℤ → ℕ
shifted_second w = unsigned_abs (w +ℤ pos 75_155_090_198_400)

-- the second of the day, by the day counted from there and the low 32 bits of the second
abbrev pub second_of_low_word : ℕ → ℕ → ℕ
second_of_low_word day low = (low + (2 ^ 32 - day * 86_400 % 2 ^ 32)) % 2 ^ 32

-- the date-time that clocks show on a day counted from there, at a second of the day, by the steps of the reciprocals
abbrev pub date_time_by_steps : ℤ → ℕ → ℕ → DateTime
date_time_by_steps offset_seconds day second = record {
  year = step_year day;
  month = month_of_ordinal (step_leap day) (step_ordinal day);
  day = day_of_ordinal (step_leap day) (step_ordinal day);
  hour = second / 60 / 60;
  minute = second / 60 % 60;
  second = second % 60;
  nanosecond = 0;
  offset_seconds = offset_seconds;
}

-- the date-time of the bits of a year, a word of four parts and a second
abbrev pub date_time_of_word : ℕ → ℕ → ℕ → ℤ → DateTime
date_time_of_word year word second offset_seconds = record {
  year = cast_signed w32 year;
  month = word % 256;
  day = word / 256 % 256;
  hour = word / 65_536 % 256;
  minute = word / 16_777_216 % 256;
  second = second % 256;
  nanosecond = 0;
  offset_seconds = offset_seconds;
}

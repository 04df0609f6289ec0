-- The date of a day, counted from 1970.
use Rattle.std.specs.Prelude.{ℕ, ℤ, ◌+◌, ◌/◌, ◌%◌, ◌^◌}
use Rattle.std.specs.Int.{w32, cast_signed, cast_unsigned}
use Rattle.calendar_values.specs.Calendar.{year_of, month_of, day_of_month_of, month_of_ordinal, day_of_ordinal}
use Rattle.calendar_values.specs.Reciprocal.{step_year, step_leap, step_ordinal}
use Rattle.lanes.specs.declared.dates.Date.{Date}

-- the date of a day
abbrev pub date_of : ℤ → Date
date_of n = record { year = year_of n; month = month_of n; day = day_of_month_of n }

-- the day, counted from 1 January of the year -2379600, in 32 bits
abbrev pub day_in_lane : ℤ → ℕ
day_in_lane n = (cast_unsigned w32 n + 869_850_581) % 2 ^ 32

-- the date of a day counted from there, by the steps of the reciprocals
abbrev pub date_by_steps : ℕ → Date
date_by_steps day = record {
  year = step_year day;
  month = month_of_ordinal (step_leap day) (step_ordinal day);
  day = day_of_ordinal (step_leap day) (step_ordinal day);
}

-- the date of the bits of a year, and of a word of two parts
abbrev pub date_of_word : ℕ → ℕ → Date
date_of_word year word = record { year = cast_signed w32 year; month = word % 256; day = word / 256 % 256 }

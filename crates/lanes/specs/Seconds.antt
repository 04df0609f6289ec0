-- The second that clocks at an offset show as a date-time.
use Rattle.std.specs.Prelude.{ℕ, ℤ, pos, neg_ℤ, ◌+◌, ◌*◌, ◌≤◌, ◌+ℤ◌, ◌-ℤ◌, ◌*ℤ◌, ◌≤ℤ◌}
use Rattle.calendar_values.specs.Calendar.{IsCalendarDate, day_of_calendar_date}
use Rattle.calendar_values.specs.Offsets.{IsOffset}
use Rattle.lanes.specs.declared.date_times.DateTime.{DateTime}

-- each part of a date-time is in its range, and its year is neither the first nor the last of the range
pub record IsInside (at : DateTime) : Type 0 where
  pub year_first : neg_ℤ (pos 999_998) ≤ℤ at.year
  pub year_last : at.year ≤ℤ pos 999_998
  pub date : IsCalendarDate at.year at.month at.day
  pub hour : at.hour ≤ 23
  pub minute : at.minute ≤ 59
  pub second : at.second ≤ 59
  pub nanosecond : at.nanosecond ≤ 999_999_999
  pub offset : IsOffset at.offset_seconds

-- the second of the day
abbrev pub clock_second : ℕ → ℕ → ℕ → ℕ
clock_second hour minute second = (hour * 60 + minute) * 60 + second

-- the second at which clocks at the offset show the date-time, counted from 1970
abbrev pub second_of : DateTime → ℤ
second_of at =
    ((day_of_calendar_date at.year at.month at.day *ℤ pos 86_400) +ℤ pos (clock_second at.hour at.minute at.second)) -ℤ at.offset_seconds

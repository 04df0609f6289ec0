-- The meaning of the numbers of a text: a wall clock at an offset, or the first number that is out of range.
use Rattle.std.specs.Prelude.{ℕ, ◌+◌, ◌*◌, ◌≤◌, ◌==◌, ◌||◌, Bool, nat_lt, if◌then◌else◌, ℤ, pos, neg_ℤ, Result, Ok, Err}
use Rattle.calendar_values.specs.Calendar.{is_leap_year, days_in_month, day_of_calendar_date}
use Rattle.calendar_values.specs.Clock.{clock_of_parts}
use Rattle.calendar_values.specs.WallClock.{wall_clock}
use Rattle.offset_times.specs.Local.{Local, wall_at}
use Rattle.iso_texts.specs.declared.parts.IsoParts.{IsoParts}
use Rattle.rfc3339.specs.declared.refusal.Component.TheVariants.{Month, Day, Hour, Minute, Second, OffsetHour, OffsetMinute}
use Rattle.rfc3339.specs.declared.refusal.TextRefusal.{TextRefusal}
use Rattle.rfc3339.specs.declared.refusal.TextRefusal.TheVariants.{OutOfRange}

-- a number with its sign
abbrev pub with_sign : Bool → ℕ → ℤ
with_sign is_below number = if is_below then neg_ℤ (pos number) else pos number

-- the year with its sign
abbrev pub year_of_parts : IsoParts → ℤ
year_of_parts p = with_sign p.is_before p.year

-- the seconds of an offset of hours, minutes and seconds, below 0 west of Greenwich
abbrev pub iso_offset_of : Bool → ℕ → ℕ → ℕ → ℤ
iso_offset_of is_west hour minute second = with_sign is_west (hour * 3_600 + minute * 60 + second)

-- the wall clock and the offset
abbrev pub iso_value_of : IsoParts → Local
iso_value_of p =
    wall_at (wall_clock (day_of_calendar_date (year_of_parts p) p.month p.day) (clock_of_parts p.hour p.minute p.second p.nanosecond))
    (iso_offset_of p.is_west p.offset_hour p.offset_minute p.offset_second)

-- each number is in its range
pub record AreInIsoRange (p : IsoParts) : Type 0 where
  pub month_first : 1 ≤ p.month
  pub month_last : p.month ≤ 12
  pub day_first : 1 ≤ p.day
  pub day_last : p.day ≤ days_in_month (is_leap_year (year_of_parts p)) p.month
  pub hour : p.hour ≤ 23
  pub minute : p.minute ≤ 59
  pub second : p.second ≤ 59
  pub offset_hour : p.offset_hour ≤ 25
  pub offset_minute : p.offset_minute ≤ 59

-- the value, or the first number from the left that is out of range
unfoldable pub iso_meaning : IsoParts → Result Local TextRefusal
iso_meaning p =
    if p.month == 0 || nat_lt 12 p.month then Err (OutOfRange Month)
    else (if p.day == 0 || nat_lt (days_in_month (is_leap_year (year_of_parts p)) p.month) p.day then Err (OutOfRange Day)
    else (if nat_lt 23 p.hour then Err (OutOfRange Hour)
    else (if nat_lt 59 p.minute then Err (OutOfRange Minute)
    else (if nat_lt 59 p.second then Err (OutOfRange Second)
    else (if nat_lt 25 p.offset_hour then Err (OutOfRange OffsetHour)
    else (if nat_lt 59 p.offset_minute then Err (OutOfRange OffsetMinute)
    else Ok (iso_value_of p)))))))

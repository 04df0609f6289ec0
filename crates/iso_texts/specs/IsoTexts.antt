-- The text of ISO 8601 of a wall clock at an offset.
use Rattle.std.specs.Prelude.{ℕ, ◌/◌, ◌%◌, ◌==◌, ◌||◌, Bool, List, [], ◌++◌, if◌then◌else◌, codes, ℤ, pos, int_lt, unsigned_abs}
use Rattle.calendar_values.specs.Calendar.{year_of, month_of, day_of_month_of}
use Rattle.calendar_values.specs.Clock.{hour_of, minute_of, second_of, nanosecond_of}
use Rattle.calendar_values.specs.Digits.{last_digits}
use Rattle.calendar_values.specs.WallClock.{wall_day, wall_time}
use Rattle.offset_times.specs.Local.{Local}
use Rattle.stamp_times.specs.Texts.{fraction_text}
use Rattle.iso_texts.specs.IsoForms.{sign, hours_and_minutes, iso_spelling}
use Rattle.iso_texts.specs.declared.parts.IsoParts.{IsoParts}

-- the year has no four digits: it is below 0 or above 9999
abbrev pub has_long_year : ℤ → Bool
has_long_year y = int_lt y (pos 0) || int_lt (pos 9_999) y

-- the four digits of a year, or its sign and six digits
unfoldable pub iso_year_text : ℤ → List ℕ
iso_year_text y =
    if has_long_year y then sign (int_lt y (pos 0)) ++ last_digits 6 (unsigned_abs y) else last_digits 4 (unsigned_abs y)

-- the seconds of an offset after its minutes, or nothing if there are none
abbrev pub seconds_text : ℕ → List ℕ
seconds_text second = if second == 0 then [] else codes ":" ++ last_digits 2 second

-- `Z` for the offset 0, else the sign, the hours and the minutes, and the seconds if there are any
unfoldable pub iso_offset_text : ℤ → List ℕ
iso_offset_text o =
    let n = unsigned_abs o in
    if n == 0 then codes "Z"
    else hours_and_minutes (int_lt o (pos 0)) (n / 3_600) (n / 60 % 60) ++ seconds_text (n % 60)

-- the numbers that clocks and calendars show there
abbrev pub iso_parts_of : Local → IsoParts
iso_parts_of at =
    let day = wall_day at.wall in
    let clock = wall_time at.wall in
    let offset = unsigned_abs at.offset in
    record {
      is_before = int_lt (year_of day) (pos 0);
      year = unsigned_abs (year_of day);
      month = month_of day;
      day = day_of_month_of day;
      hour = hour_of clock;
      minute = minute_of clock;
      second = second_of clock;
      nanosecond = nanosecond_of clock;
      is_west = int_lt at.offset (pos 0);
      offset_hour = offset / 3_600;
      offset_minute = offset / 60 % 60;
      offset_second = offset % 60;
    }

-- the date, `T`, the time of day, the fraction, the offset
unfoldable pub iso_text : Local → List ℕ
iso_text at =
    iso_spelling (iso_parts_of at) (iso_year_text (year_of (wall_day at.wall))) 84
    (fraction_text (nanosecond_of (wall_time at.wall))) (iso_offset_text at.offset)

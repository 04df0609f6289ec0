-- The reading of a text whose second may be 60, for a leap second: the last nanosecond of a month in UTC, with a mark.
use Rattle.std.specs.Prelude.{◌≡◌, ℕ, ◌≤◌, ◌==◌, ◌&&◌, Bool, not, List, if◌then◌else◌, ℤ, pos, ◌+ℤ◌, Option, Some, None, Result, Ok, Err}
use Rattle.calendar_values.specs.Calendar.{day_of_calendar_date, day_of_month_of}
use Rattle.calendar_values.specs.WallClock.{wall_clock, wall_day, wall_time}
use Rattle.offset_times.specs.Local.{Local, instant_of}
use Rattle.rfc3339.specs.Meaning.{value_of, meaning, AreInRange}
use Rattle.rfc3339.specs.Reading.{parts_at}
use Rattle.rfc3339.specs.declared.parts.Parts.{Parts}
use Rattle.rfc3339.specs.declared.refusal.Component.TheVariants.{Second}
use Rattle.rfc3339.specs.declared.refusal.TextRefusal.{TextRefusal}
use Rattle.rfc3339.specs.declared.refusal.TextRefusal.TheVariants.{Syntax, OutOfRange}

-- a month begins in UTC at this instant: clocks there show midnight of its first day
pub record MonthBegins (instant : ℤ) : Type 0 where
  pub year : ℤ
  pub month : ℕ
  pub month_first : 1 ≤ month
  pub month_last : month ≤ 12
  pub midnight : instant ≡ wall_clock (day_of_calendar_date year month 1) 0

-- the last nanosecond of a month in UTC: the next one begins another month
abbrev pub IsLastOfMonth : ℤ → Type 0
IsLastOfMonth instant = MonthBegins (instant +ℤ pos 1)

-- the same as a test
abbrev pub is_last_of_month : ℤ → Bool
is_last_of_month instant =
    let next = instant +ℤ pos 1 in (day_of_month_of (wall_day next) == 1) && (wall_time next == 0)

-- the same numbers, with the last nanosecond of the minute where the second is 60, whatever its fraction
abbrev pub stand_in : Parts → Parts
stand_in p = record {
  year = p.year;
  month = p.month;
  day = p.day;
  hour = p.hour;
  minute = p.minute;
  second = if p.second == 60 then 59 else p.second;
  nanosecond = if p.second == 60 then 999_999_999 else p.nanosecond;
  is_west = p.is_west;
  offset_hour = p.offset_hour;
  offset_minute = p.offset_minute;
}

-- each of these numbers is in its range, and a second of 60 is the last of a month in UTC
pub record AreInLeapRange (p : Parts) : Type 0 where
  pub in_range : AreInRange (stand_in p)
  pub last_of_month : p.second ≡ 60 → IsLastOfMonth (instant_of (value_of (stand_in p)))

-- a value with the mark of a leap second, or an error where no month ends with that second
abbrev pub leap_outcome : Bool → Result Local TextRefusal → Result (Local × Bool) TextRefusal
leap_outcome is_leap (Err refusal) = Err refusal
leap_outcome is_leap (Ok at) =
    if is_leap && not (is_last_of_month (instant_of at)) then Err (OutOfRange Second) else Ok (at, is_leap)

-- the meaning of numbers whose second may be 60
unfoldable pub leap_meaning : Parts → Result (Local × Bool) TextRefusal
leap_meaning p = leap_outcome (p.second == 60) (meaning (stand_in p))

-- the same, or a syntax error if there are no numbers
abbrev pub leap_meaning_if_any : Option Parts → Result (Local × Bool) TextRefusal
leap_meaning_if_any None = Err Syntax
leap_meaning_if_any (Some p) = leap_meaning p

-- the reading of a text: a wall clock at an offset and the mark, or an error
unfoldable pub leap_reading_of : List ℕ → Result (Local × Bool) TextRefusal
leap_reading_of text = leap_meaning_if_any (parts_at text)

-- The laws of all years, days and clocks, which prove that the definitions are those of the calendar.
-- A function of `src/laws.rt` proves each law.
use Rattle.std.specs.Prelude.{◌≡◌, ◌↔◌, ℕ, ◌*◌, ◌<◌, ◌≤◌, ℤ, pos, ◌+ℤ◌, ◌*ℤ◌, Ok}
use Rattle.calendar_values.specs.Calendar.{days_in_year, year_start, year_of, ordinal_of, month_of, day_of_month_of, day_of_calendar_date, day_of_ordinal_date}
use Rattle.calendar_values.specs.Calendar.{IsInYear, IsCalendarDate, IsOrdinalDate}
use Rattle.calendar_values.specs.Clock.{IsClock, HasTimeParts, hour_of, minute_of, second_of, nanosecond_of, nanos_per_millisecond, nanos_per_microsecond}
use Rattle.calendar_values.specs.Constructors.{calendar_date_outcome, ordinal_date_outcome, iso_week_date_outcome, julian_date_outcome}
use Rattle.calendar_values.specs.Constructors.{hms_outcome, hms_milli_outcome, hms_micro_outcome, hms_nano_outcome}
use Rattle.calendar_values.specs.Dates.{ShowsIsoWeekDate}
use Rattle.calendar_values.specs.Offsets.{offset_outcome, offset_seconds_outcome}
use Rattle.calendar_values.specs.Outcomes.{IsOneAnswer}
use Rattle.calendar_values.specs.Range.{first_year, last_year, first_day, last_day, IsDay}
use Rattle.calendar_values.specs.Replacements.{year_outcome, month_outcome, day_outcome, ordinal_outcome, hour_outcome, minute_outcome}
use Rattle.calendar_values.specs.Replacements.{second_outcome, millisecond_outcome, microsecond_outcome, nanosecond_outcome}
use Rattle.calendar_values.specs.Truncations.{multiple_below, IsGreatestMultiple}
use Rattle.calendar_values.specs.Weeks.{weekday_of, iso_year_of, iso_week_of}

-- 1970 begins on day 0, and each year begins after the days of the year before
pub record YearsFollow : Type 0 where
  pub epoch : year_start (pos 1970) ≡ pos 0
  pub next : (y : ℤ) → year_start (y +ℤ pos 1) ≡ year_start y +ℤ pos (days_in_year y)

-- each day is in its year, and in no other
pub record YearIsUnique : Type 0 where
  pub lies : (n : ℤ) → IsInYear n (year_of n)
  pub only : (n y : ℤ) → IsInYear n y → year_of n ≡ y

-- each day has a date of the calendar, whose day number is that day; the day number of each date of the calendar has that date
pub record CalendarDatesAreDays : Type 0 where
  pub shown : (n : ℤ) → IsCalendarDate (year_of n) (month_of n) (day_of_month_of n)
  pub numbered : (n : ℤ) → day_of_calendar_date (year_of n) (month_of n) (day_of_month_of n) ≡ n
  pub year : (y : ℤ) (m d : ℕ) → IsCalendarDate y m d → year_of (day_of_calendar_date y m d) ≡ y
  pub month : (y : ℤ) (m d : ℕ) → IsCalendarDate y m d → month_of (day_of_calendar_date y m d) ≡ m
  pub day : (y : ℤ) (m d : ℕ) → IsCalendarDate y m d → day_of_month_of (day_of_calendar_date y m d) ≡ d

-- the same for a year and a day of the year
pub record OrdinalDatesAreDays : Type 0 where
  pub shown : (n : ℤ) → IsOrdinalDate (year_of n) (ordinal_of n)
  pub numbered : (n : ℤ) → day_of_ordinal_date (year_of n) (ordinal_of n) ≡ n
  pub year : (y : ℤ) (ordinal : ℕ) → IsOrdinalDate y ordinal → year_of (day_of_ordinal_date y ordinal) ≡ y
  pub ordinal : (y : ℤ) (ordinal : ℕ) → IsOrdinalDate y ordinal → ordinal_of (day_of_ordinal_date y ordinal) ≡ ordinal

-- the ISO year, the ISO week and the day of the week of a day of the range return that day;
-- a day that an ISO year, an ISO week and a day of the week return has all three
pub record IsoWeekDatesAreDays : Type 0 where
  pub numbered : (n : ℤ) → IsDay n → (iso_week_date_outcome (iso_year_of n) (iso_week_of n) (weekday_of n)).answer ≡ Ok n
  pub shown : (y n : ℤ) (w d : ℕ) → d < 7 → (iso_week_date_outcome y w d).answer ≡ Ok n → ShowsIsoWeekDate y w d n

-- the range begins on 1 January of its first year, a Monday, and ends on 31 December of its last, a Friday
pub record RangeIsWholeYears : Type 0 where
  pub first : day_of_calendar_date first_year 1 1 ≡ first_day
  pub last : day_of_calendar_date last_year 12 31 ≡ last_day
  pub monday : weekday_of first_day ≡ 0
  pub friday : weekday_of last_day ≡ 4

-- this is the only day that has the year, the month and the day of the month
pub record IsOnlyDay (n y : ℤ) (m d : ℕ) : Type 0 where
  pub year : year_of n ≡ y
  pub month : month_of n ≡ m
  pub day : day_of_month_of n ≡ d
  pub only : (k : ℤ) → year_of k ≡ y → month_of k ≡ m → day_of_month_of k ≡ d → k ≡ n

-- a replacement that succeeds returns the only day whose named part is as given and whose other parts are as before
pub record ReplacementsKeepTheRest : Type 0 where
  pub year : (n y k : ℤ) → (year_outcome n y).answer ≡ Ok k → IsOnlyDay k y (month_of n) (day_of_month_of n)
  pub month : (n k : ℤ) (m : ℕ) → 1 ≤ m → m ≤ 12 → (month_outcome n m).answer ≡ Ok k → IsOnlyDay k (year_of n) m (day_of_month_of n)
  pub day : (n k : ℤ) (d : ℕ) → (day_outcome n d).answer ≡ Ok k → IsOnlyDay k (year_of n) (month_of n) d
  pub ordinal : (n k : ℤ) (o : ℕ) → (ordinal_outcome n o).answer ≡ Ok k → (year_of k ≡ year_of n) × (ordinal_of k ≡ o)

-- a replacement of a part of a clock succeeds exactly if a clock shows the part as given and the other parts as before;
-- parts finer than a replaced millisecond or microsecond are 0; the replacement returns that clock, which is the only one
pub record ClockReplacementsKeepTheRest : Type 0 where
  pub hour : (c h d : ℕ) → IsClock c → ((hour_outcome c h).answer ≡ Ok d) ↔ HasTimeParts d h (minute_of c) (second_of c) (nanosecond_of c)
  pub minute : (c m d : ℕ) → IsClock c → ((minute_outcome c m).answer ≡ Ok d) ↔ HasTimeParts d (hour_of c) m (second_of c) (nanosecond_of c)
  pub second : (c s d : ℕ) → IsClock c → ((second_outcome c s).answer ≡ Ok d) ↔ HasTimeParts d (hour_of c) (minute_of c) s (nanosecond_of c)
  pub millisecond : (c n d : ℕ) → IsClock c → ((millisecond_outcome c n).answer ≡ Ok d)
      ↔ HasTimeParts d (hour_of c) (minute_of c) (second_of c) (n * nanos_per_millisecond)
  pub microsecond : (c n d : ℕ) → IsClock c → ((microsecond_outcome c n).answer ≡ Ok d)
      ↔ HasTimeParts d (hour_of c) (minute_of c) (second_of c) (n * nanos_per_microsecond)
  pub nanosecond : (c n d : ℕ) → IsClock c → ((nanosecond_outcome c n).answer ≡ Ok d) ↔ HasTimeParts d (hour_of c) (minute_of c) (second_of c) n
  pub only : (c d h m s n : ℕ) → HasTimeParts c h m s n → HasTimeParts d h m s n → c ≡ d

-- a truncation returns the greatest multiple of the unit that is not above the clock
abbrev pub TruncationIsGreatestMultiple : Type 0
TruncationIsGreatestMultiple = (unit c : ℕ) → 0 < unit → IsGreatestMultiple unit c (multiple_below unit c)

-- the outcome of each call that may fail is one answer: its value if its arguments fit, and else its error
pub record OutcomesAreAnswers : Type 0 where
  pub calendar_date : (y : ℤ) (m d : ℕ) → IsOneAnswer (calendar_date_outcome y m d)
  pub ordinal_date : (y : ℤ) (o : ℕ) → IsOneAnswer (ordinal_date_outcome y o)
  pub iso_week_date : (y : ℤ) (w d : ℕ) → IsOneAnswer (iso_week_date_outcome y w d)
  pub julian_date : (j : ℤ) → IsOneAnswer (julian_date_outcome j)
  pub hms : (h m s : ℕ) → IsOneAnswer (hms_outcome h m s)
  pub hms_milli : (h m s milli : ℕ) → IsOneAnswer (hms_milli_outcome h m s milli)
  pub hms_micro : (h m s micro : ℕ) → IsOneAnswer (hms_micro_outcome h m s micro)
  pub hms_nano : (h m s n : ℕ) → IsOneAnswer (hms_nano_outcome h m s n)
  pub offset : (h m s : ℤ) → IsOneAnswer (offset_outcome h m s)
  pub offset_seconds : (o : ℤ) → IsOneAnswer (offset_seconds_outcome o)
  pub year : (n y : ℤ) → IsOneAnswer (year_outcome n y)
  pub month : (n : ℤ) (m : ℕ) → IsDay n → IsOneAnswer (month_outcome n m)
  pub day : (n : ℤ) (d : ℕ) → IsDay n → IsOneAnswer (day_outcome n d)
  pub ordinal : (n : ℤ) (o : ℕ) → IsDay n → IsOneAnswer (ordinal_outcome n o)
  pub hour : (c h : ℕ) → IsOneAnswer (hour_outcome c h)
  pub minute : (c m : ℕ) → IsOneAnswer (minute_outcome c m)
  pub second : (c s : ℕ) → IsOneAnswer (second_outcome c s)
  pub millisecond : (c n : ℕ) → IsOneAnswer (millisecond_outcome c n)
  pub microsecond : (c n : ℕ) → IsOneAnswer (microsecond_outcome c n)
  pub nanosecond : (c n : ℕ) → IsOneAnswer (nanosecond_outcome c n)

-- the day of the week is the same a whole number of weeks later
abbrev pub WeekdaysRepeat : Type 0
WeekdaysRepeat = (n weeks : ℤ) → weekday_of (n +ℤ weeks *ℤ pos 7) ≡ weekday_of n

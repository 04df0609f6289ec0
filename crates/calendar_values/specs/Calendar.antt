-- The proleptic Gregorian calendar, counted a day, a month and a year at a time.
-- Day 0 is 1 January 1970; days before it are negative. Years are astronomical: year 0 comes before year 1.
use Rattle.std.specs.Prelude.{ℕ, zero, suc, ◌+◌, ◌-◌, ◌%◌, ◌≤◌, Bool, not, ◌&&◌, ◌||◌, ◌==◌, if◌then◌else◌, nat_lt, ℤ, pos, negsuc, neg_ℤ, ◌+ℤ◌, ◌-ℤ◌, ◌≤ℤ◌}
use Rattle.std.specs.Prelude.{◌<ℤ◌, unsigned_abs, int_lt}

-- k divides y
abbrev pub divides : ℕ → ℤ → Bool
divides k y = unsigned_abs y % k == 0

-- a leap year: it divides by 4 and not by 100, or it divides by 400
abbrev pub is_leap_year : ℤ → Bool
is_leap_year y = (divides 4 y && not (divides 100 y)) || divides 400 y

-- the days of a leap year, or of a common year
abbrev pub year_length : Bool → ℕ
year_length is_leap = if is_leap then 366 else 365

-- the days of a year
abbrev pub days_in_year : ℤ → ℕ
days_in_year y = year_length (is_leap_year y)

-- the days of the first n years from 1970 on
unfoldable pub days_from_1970 : ℕ → ℕ
days_from_1970 zero = 0
days_from_1970 (suc n) = days_from_1970 n + days_in_year (pos 1970 +ℤ pos n)

-- the days of the last n years before 1970
unfoldable pub days_until_1970 : ℕ → ℕ
days_until_1970 zero = 0
days_until_1970 (suc n) = days_until_1970 n + days_in_year (pos 1970 -ℤ pos (suc n))

-- the number of days from 1 January 1970 to 1 January a number of years later; negative numbers count back
unfoldable pub days_of_years : ℤ → ℤ
days_of_years (pos n) = pos (days_from_1970 n)
days_of_years (negsuc n) = neg_ℤ (pos (days_until_1970 (suc n)))

-- the day number of 1 January
unfoldable pub year_start : ℤ → ℤ
year_start y = days_of_years (y -ℤ pos 1970)

-- the days of a month, numbered from 1, in a leap year or a common year
abbrev pub days_in_month : Bool → ℕ → ℕ
days_in_month is_leap m =
    if m == 2 then (if is_leap then 29 else 28)
    else (if (m == 4) || (m == 6) || (m == 9) || (m == 11) then 30 else 31)

-- the days of the first n months of the year
unfoldable pub days_in_months : Bool → ℕ → ℕ
days_in_months is_leap zero = 0
days_in_months is_leap (suc n) = days_in_months is_leap n + days_in_month is_leap (suc n)

-- the days of the months before a month
abbrev pub days_before_month : Bool → ℕ → ℕ
days_before_month is_leap m = days_in_months is_leap (m - 1)

-- the calendar has this month and day in the year
pub record IsCalendarDate (y : ℤ) (m d : ℕ) : Type 0 where
  pub month_first : 1 ≤ m
  pub month_last : m ≤ 12
  pub day_first : 1 ≤ d
  pub day_last : d ≤ days_in_month (is_leap_year y) m

-- the calendar has this day of the year, counted from 1
pub record IsOrdinalDate (y : ℤ) (ordinal : ℕ) : Type 0 where
  pub first : 1 ≤ ordinal
  pub last : ordinal ≤ days_in_year y

-- the day number of a year, a month and a day
abbrev pub day_of_calendar_date : ℤ → ℕ → ℕ → ℤ
day_of_calendar_date y m d = year_start y +ℤ pos (days_before_month (is_leap_year y) m + d) -ℤ pos 1

-- the day number of a year and a day of the year
abbrev pub day_of_ordinal_date : ℤ → ℕ → ℤ
day_of_ordinal_date y ordinal = year_start y +ℤ pos ordinal -ℤ pos 1

-- the day is in the year
pub record IsInYear (n y : ℤ) : Type 0 where
  pub low : year_start y ≤ℤ n
  pub high : n <ℤ year_start (y +ℤ pos 1)

-- the year of the day that comes n days after 1 January 1970, counted a day at a time
unfoldable pub year_after_1970 : ℕ → ℤ
year_after_1970 zero = pos 1970
year_after_1970 (suc n) =
    let y = year_after_1970 n in if int_lt (pos (suc n)) (year_start (y +ℤ pos 1)) then y else y +ℤ pos 1

-- the year of the day that comes n days before 1 January 1970, counted a day at a time
unfoldable pub year_before_1970 : ℕ → ℤ
year_before_1970 zero = pos 1970
year_before_1970 (suc n) =
    let y = year_before_1970 n in if int_lt (negsuc n) (year_start y) then y -ℤ pos 1 else y

-- the year of a day
unfoldable pub year_of : ℤ → ℤ
year_of (pos n) = year_after_1970 n
year_of (negsuc n) = year_before_1970 (suc n)

-- the day of the year of a day, counted from 1
unfoldable pub ordinal_of : ℤ → ℕ
ordinal_of n = unsigned_abs (n -ℤ year_start (year_of n)) + 1

-- the last of the first n months that begins on or before a day of the year
unfoldable pub last_month_begun : ℕ → Bool → ℕ → ℕ
last_month_begun zero is_leap ordinal = 0
last_month_begun (suc n) is_leap ordinal =
    if nat_lt (days_in_months is_leap n) ordinal then suc n else last_month_begun n is_leap ordinal

-- the month of a day of the year, in a leap year or a common year
unfoldable pub month_of_ordinal : Bool → ℕ → ℕ
month_of_ordinal is_leap ordinal = last_month_begun 12 is_leap ordinal

-- the day of the month of a day of the year, in a leap year or a common year
unfoldable pub day_of_ordinal : Bool → ℕ → ℕ
day_of_ordinal is_leap ordinal = ordinal - days_before_month is_leap (month_of_ordinal is_leap ordinal)

-- the month of a day
abbrev pub month_of : ℤ → ℕ
month_of n = month_of_ordinal (is_leap_year (year_of n)) (ordinal_of n)

-- the day of the month of a day
abbrev pub day_of_month_of : ℤ → ℕ
day_of_month_of n = day_of_ordinal (is_leap_year (year_of n)) (ordinal_of n)

-- the Julian day of 1 January 1970
abbrev pub epoch_julian_day : ℤ
epoch_julian_day = pos 2_440_588

-- the Julian day of a day
abbrev pub julian_day_of : ℤ → ℤ
julian_day_of n = n +ℤ epoch_julian_day

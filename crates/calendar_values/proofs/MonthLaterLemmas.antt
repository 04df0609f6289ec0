-- Days of months, and months that are counted.
use Rattle.std.proofs.Common.{◌≡◌, refl, ℕ, ◌≤◌, min, arith, ℤ, pos, ◌+ℤ◌, ◌-ℤ◌, ◌*ℤ◌, ◌≤ℤ◌, Option, Some, None, IfSome, SomeIff}
use Rattle.calendar_values.specs.Calendar.{IsCalendarDate, is_leap_year, days_in_month, year_of, month_of}
use Rattle.calendar_values.specs.Calendar.{day_of_month_of}
use Rattle.calendar_values.specs.CalendarDateLemmas.{days_in_month_bounds, IsCalendarDate-of, day_of_calendar_date-of, IsOrdinalDate-date}
use Rattle.calendar_values.specs.CalendarDateLemmas.{year_of-calendar_date}
use Rattle.calendar_values.specs.Dates.{ShowsDate}
use Rattle.calendar_values.specs.DayLemmas.{IsYear-year_of, IsDay-ordinal_date}
use Rattle.calendar_values.specs.Months.{first_of_month, last_of_month, day_or_last, month_index, year_of_index, month_of_index}
use Rattle.calendar_values.specs.Range.{IsYear, SomeDay}
use Rattle.calendar_values.specs.SignedArith.{signed_arith}

-- a day of a month, or the month's last day if the month is shorter, is a day of that month
pub IsCalendarDate-or_last : (y : ℤ) (m d : ℕ) → 1 ≤ m → m ≤ 12 → 1 ≤ d → IsCalendarDate y m (min d (days_in_month (is_leap_year y) m))
IsCalendarDate-or_last y m d first last some = omega (arith, days_in_month_bounds (is_leap_year y) m)

-- day 1 is in each month
least_first : (y : ℤ) (m : ℕ) → min 1 (days_in_month (is_leap_year y) m) ≡ 1
least_first y m = omega (arith, days_in_month_bounds (is_leap_year y) m)

pub first_of_month-is : (n d : ℤ) → d ≡ day_or_last (year_of n) (month_of n) 1 → d ≡ first_of_month n
unfolding first_of_month
first_of_month-is n d e = rw (least_first (year_of n) (month_of n)) at e

pub ShowsDate-first : (y d : ℤ) (m : ℕ) → ShowsDate y m (min 1 (days_in_month (is_leap_year y) m)) d → ShowsDate y m 1 d
ShowsDate-first y d m h = rw (least_first y m) at h

pub first_not_after : (n d : ℤ) → d ≡ day_or_last (year_of n) (month_of n) 1 → d ≤ℤ n
first_not_after n d e =
    let date = IsCalendarDate-of n in
    let made = rw (least_first (year_of n) (month_of n)) at e in
    rw made (omega (arith, signed_arith, date.day_first, day_of_calendar_date-of n))

pub ruleset first_days = (first_of_month-is, ShowsDate-first, first_not_after)

-- day 31 is past the last of a month, or its last
least_last : (y : ℤ) (m : ℕ) → min 31 (days_in_month (is_leap_year y) m) ≡ days_in_month (is_leap_year y) m
least_last y m = omega (arith, days_in_month_bounds (is_leap_year y) m)

pub last_of_month-is : (n d : ℤ) → d ≡ day_or_last (year_of n) (month_of n) 31 → d ≡ last_of_month n
unfolding last_of_month
last_of_month-is n d e = rw (least_last (year_of n) (month_of n)) at e

pub ShowsDate-last : (y d : ℤ) (m : ℕ) → ShowsDate y m (min 31 (days_in_month (is_leap_year y) m)) d → ShowsDate y m (days_in_month (is_leap_year y) m) d
ShowsDate-last y d m h = rw (least_last y m) at h

pub last_not_before : (n d : ℤ) → d ≡ day_or_last (year_of n) (month_of n) 31 → n ≤ℤ d
last_not_before n d e =
    let date = IsCalendarDate-of n in
    let made = rw (least_last (year_of n) (month_of n)) at e in
    rw made (omega (arith, signed_arith, date.day_last, day_of_calendar_date-of n))

pub ruleset last_days = (last_of_month-is, ShowsDate-last, last_not_before)

-- such a day is one of the range exactly if its year is
pub SomeDay-or_last : (r : Option ℤ) (y : ℤ) (m d : ℕ) → 1 ≤ m → m ≤ 12 → 1 ≤ d → SomeIff r (IsYear y) (day_or_last y m d)
    → SomeDay r (day_or_last y m d)
SomeDay-or_last None y m d first last some h =
    let date = IsCalendarDate-or_last y m d first last some in
    λ there. h (rw (year_of-calendar_date y m _ date) at (IsYear-year_of _ there))
SomeDay-or_last (Some x) y m d first last some h =
    let date = IsCalendarDate-or_last y m d first last some in
    (IsDay-ordinal_date y _ h.0 (IsOrdinalDate-date y m _ date), h.1)

-- the year and the number of a month that is counted make its count
pub index-parts : (i : ℤ) → (year_of_index i *ℤ pos 12) +ℤ pos (month_of_index i) -ℤ pos 1 ≡ i
index-parts i = omega (arith, signed_arith)

pub month_of_index_bounds : (i : ℤ) → (1 ≤ month_of_index i) × (month_of_index i ≤ 12)
month_of_index_bounds i = omega (arith, signed_arith)

pub month_index-shown : (r : Option ℤ) (i : ℤ) (d : ℕ) → IfSome r (ShowsDate (year_of_index i) (month_of_index i) d)
    → IfSome r (λ n. month_index n ≡ i)
month_index-shown None i d h = h
month_index-shown (Some n) i d h = rw (h.month, h.year) (index-parts i)

pub day-shown : (r : Option ℤ) (i : ℤ) (d : ℕ)
    → IfSome r (ShowsDate (year_of_index i) (month_of_index i) (min d (days_in_month (is_leap_year (year_of_index i)) (month_of_index i))))
    → IfSome r (λ n. day_of_month_of n ≡ min d (days_in_month (is_leap_year (year_of n)) (month_of n)))
day-shown None i d h = h
day-shown (Some n) i d h = rw (h.day, h.month, h.year) refl

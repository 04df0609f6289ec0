-- Each day of the year is one day of one month, and the parts of a date and its day number determine each other.
use Rattle.std.proofs.Common.{◌≡◌, ℕ, zero, suc, ◌+◌, ◌-◌, ◌<◌, ◌≤◌, inl, inr, refl, cond, Bool, true, false, arith, ℤ, nat_lt}
use Rattle.std.proofs.lemmas.Bool.{cases_order, ltb-true, ltb-false}
use Rattle.calendar_values.specs.Calendar.{is_leap_year, year_length, days_in_month, days_in_months, days_before_month, last_month_begun, month_of_ordinal}
use Rattle.calendar_values.specs.Calendar.{day_of_ordinal, year_of, ordinal_of, month_of, day_of_month_of, day_of_calendar_date, IsOrdinalDate, IsCalendarDate}
use Rattle.calendar_values.specs.Dates.{ShowsDate}
use Rattle.calendar_values.specs.SignedArith.{signed_arith}
use Rattle.calendar_values.specs.DayLemmas.{IsOrdinalDate-of, ordinal_of-start, year_of-ordinal_date, ordinal_of-ordinal_date}

days_in_months-suc : (b : Bool) (n : ℕ) → days_in_months b (suc n) ≡ days_in_months b n + days_in_month b (suc n)
unfolding days_in_months
days_in_months-suc b n = refl

-- the twelve months make the year
pub days_in_months-twelve : (b : Bool) → days_in_months b 12 ≡ year_length b
unfolding days_in_months
days_in_months-twelve false = refl
days_in_months-twelve true = refl

pub days_in_month_bounds : (b : Bool) (m : ℕ) → (28 ≤ days_in_month b m) × (days_in_month b m ≤ 31)
days_in_month_bounds b m = grind arith

-- the month has begun on this day of the year, and has not ended
pub record IsInMonth (is_leap : Bool) (ordinal m : ℕ) : Type 0 where
  pub first : 1 ≤ m
  pub last : m ≤ 12
  pub low : days_before_month is_leap m < ordinal
  pub high : ordinal ≤ days_before_month is_leap m + days_in_month is_leap m

in_last_begun : (n : ℕ) (b : Bool) (ordinal : ℕ) → n ≤ 12 → 1 ≤ ordinal → ordinal ≤ days_in_months b n → IsInMonth b ordinal (last_month_begun n b ordinal)
unfolding last_month_begun days_in_months
in_last_begun zero b ordinal last low high = absurd (omega arith)
in_last_begun (suc n) b ordinal last low high = choose (nat_lt (days_in_months b n) ordinal) refl (λ h. in_last_begun n b ordinal (omega arith) low h) where
  choose : (t : Bool) → nat_lt (days_in_months b n) ordinal ≡ t → (ordinal ≤ days_in_months b n → IsInMonth b ordinal (last_month_begun n b ordinal)) →
      IsInMonth b ordinal (cond t (suc n) (last_month_begun n b ordinal))
  choose true t earlier =
      let back : suc n - 1 ≡ n = omega arith in
      record { first = omega arith; last = last; low = rw back (omega (arith, ltb-true)); high = rw back (omega (arith, days_in_months-suc b n)) }
  choose false t earlier = earlier (omega (arith, ltb-false))

-- each day of the year is in its month
pub IsInMonth-month_of_ordinal : (b : Bool) (ordinal : ℕ) → 1 ≤ ordinal → ordinal ≤ year_length b → IsInMonth b ordinal (month_of_ordinal b ordinal)
unfolding month_of_ordinal
IsInMonth-month_of_ordinal b ordinal low high = in_last_begun 12 b ordinal (omega arith) low (omega (arith, days_in_months-twelve b))

days_in_months-mono : (b : Bool) (m later : ℕ) → m ≤ later → days_in_months b m ≤ days_in_months b later
days_in_months-mono b m zero h = let same : m ≡ 0 = omega arith in rw same (omega arith)
days_in_months-mono b m (suc later) h = elim (cases_order m (suc later)) [
  | inl e ↦ rw e (omega arith)
  | inr (inl lt) ↦ omega (arith, days_in_months-mono b m later (omega arith), days_in_months-suc b later)
  | inr (inr gt) ↦ absurd (omega arith)
]

-- a later month begins after the days of this one
days_before_month-later : (b : Bool) (m later : ℕ) → 1 ≤ m → m < later → days_before_month b m + days_in_month b m ≤ days_before_month b later
days_before_month-later b zero later first h = absurd (omega arith)
days_before_month-later b (suc m) later first h =
    let back : suc m - 1 ≡ m = omega arith in
    rw back (omega (arith, days_in_months-suc b m, days_in_months-mono b (suc m) (later - 1) (omega arith)))

IsInMonth-unique : (b : Bool) (ordinal m k : ℕ) → IsInMonth b ordinal m → IsInMonth b ordinal k → m ≡ k
IsInMonth-unique b ordinal m k h j = elim (cases_order m k) [
  | inl e ↦ e
  | inr (inl lt) ↦ absurd (omega (arith, days_before_month-later b m k h.first lt))
  | inr (inr gt) ↦ absurd (omega (arith, days_before_month-later b k m j.first gt))
]

-- no month ends after the year
pub days_before_month-end : (b : Bool) (m d : ℕ) → 1 ≤ m → m ≤ 12 → d ≤ days_in_month b m → days_before_month b m + d ≤ year_length b
days_before_month-end b zero d first last h = absurd (omega arith)
days_before_month-end b (suc m) d first last h =
    let back : suc m - 1 ≡ m = omega arith in
    rw back (omega (arith, days_in_months-suc b m, days_in_months-mono b (suc m) 12 last, days_in_months-twelve b))

-- the month and the day of a day of the year are a date of that kind of year; together they make the day of the year
pub record IsMonthDay (is_leap : Bool) (ordinal m d : ℕ) : Type 0 where
  pub month_first : 1 ≤ m
  pub month_last : m ≤ 12
  pub day_first : 1 ≤ d
  pub day_last : d ≤ days_in_month is_leap m
  pub sum : days_before_month is_leap m + d ≡ ordinal

pub IsMonthDay-of_ordinal : (b : Bool) (ordinal : ℕ) → 1 ≤ ordinal → ordinal ≤ year_length b →
    IsMonthDay b ordinal (month_of_ordinal b ordinal) (day_of_ordinal b ordinal)
unfolding day_of_ordinal
IsMonthDay-of_ordinal b ordinal low high =
    let h = IsInMonth-month_of_ordinal b ordinal low high in
    record { month_first = h.first; month_last = h.last; day_first = omega arith; day_last = omega arith; sum = omega arith }

-- no other month and day make that day of the year
pub month_of_ordinal-is : (b : Bool) (ordinal m d : ℕ) → IsMonthDay b ordinal m d → month_of_ordinal b ordinal ≡ m
month_of_ordinal-is b ordinal m d h =
    let end = days_before_month-end b m d h.month_first h.month_last h.day_last in
    IsInMonth-unique b ordinal _ m (IsInMonth-month_of_ordinal b ordinal (omega arith) (omega arith)) (omega arith)

pub day_of_ordinal-is : (b : Bool) (ordinal m d : ℕ) → IsMonthDay b ordinal m d → day_of_ordinal b ordinal ≡ d
unfolding day_of_ordinal
day_of_ordinal-is b ordinal m d h = rw (month_of_ordinal-is b ordinal m d h) (omega arith)

-- the month and the day of a date make a day of its year
pub IsMonthDay-date : (y : ℤ) (m d : ℕ) → IsCalendarDate y m d → IsMonthDay (is_leap_year y) (days_before_month (is_leap_year y) m + d) m d
IsMonthDay-date y m d h = record { month_first = h.month_first; month_last = h.month_last; day_first = h.day_first; day_last = h.day_last; sum = refl }

pub IsOrdinalDate-date : (y : ℤ) (m d : ℕ) → IsCalendarDate y m d → IsOrdinalDate y (days_before_month (is_leap_year y) m + d)
IsOrdinalDate-date y m d h = omega (arith, days_before_month-end (is_leap_year y) m d h.month_first h.month_last h.day_last)

-- each day has a date of the calendar
pub IsCalendarDate-of : (n : ℤ) → IsCalendarDate (year_of n) (month_of n) (day_of_month_of n)
IsCalendarDate-of n =
    let place = IsOrdinalDate-of n in
    let h = IsMonthDay-of_ordinal (is_leap_year (year_of n)) (ordinal_of n) place.first place.last in
    record { month_first = h.month_first; month_last = h.month_last; day_first = h.day_first; day_last = h.day_last }

-- the day number of that date is the day
pub day_of_calendar_date-of : (n : ℤ) → day_of_calendar_date (year_of n) (month_of n) (day_of_month_of n) ≡ n
day_of_calendar_date-of n =
    let place = IsOrdinalDate-of n in
    let h = IsMonthDay-of_ordinal (is_leap_year (year_of n)) (ordinal_of n) place.first place.last in
    rw h.sum (omega (arith, signed_arith, ordinal_of-start n))

-- the day number of a date has the year, the month and the day of the date
pub year_of-calendar_date : (y : ℤ) (m d : ℕ) → IsCalendarDate y m d → year_of (day_of_calendar_date y m d) ≡ y
year_of-calendar_date y m d h = year_of-ordinal_date y (days_before_month (is_leap_year y) m + d) (IsOrdinalDate-date y m d h)

pub ordinal_of-calendar_date : (y : ℤ) (m d : ℕ) → IsCalendarDate y m d → ordinal_of (day_of_calendar_date y m d) ≡ days_before_month (is_leap_year y) m + d
ordinal_of-calendar_date y m d h = ordinal_of-ordinal_date y (days_before_month (is_leap_year y) m + d) (IsOrdinalDate-date y m d h)

pub month_of-calendar_date : (y : ℤ) (m d : ℕ) → IsCalendarDate y m d → month_of (day_of_calendar_date y m d) ≡ m
month_of-calendar_date y m d h = rw (year_of-calendar_date y m d h, ordinal_of-calendar_date y m d h)
    (month_of_ordinal-is (is_leap_year y) _ m d (IsMonthDay-date y m d h))

pub day_of_month_of-calendar_date : (y : ℤ) (m d : ℕ) → IsCalendarDate y m d → day_of_month_of (day_of_calendar_date y m d) ≡ d
day_of_month_of-calendar_date y m d h = rw (year_of-calendar_date y m d h, ordinal_of-calendar_date y m d h)
    (day_of_ordinal-is (is_leap_year y) _ m d (IsMonthDay-date y m d h))

pub ShowsDate-calendar_date : (y : ℤ) (m d : ℕ) → IsCalendarDate y m d → ShowsDate y m d (day_of_calendar_date y m d)
ShowsDate-calendar_date y m d h =
    record { year = year_of-calendar_date y m d h; month = month_of-calendar_date y m d h; day = day_of_month_of-calendar_date y m d h }

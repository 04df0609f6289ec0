-- The rules that callers name for the first day of a month, for a day that a month may not have, or for the next month.
use Rattle.std.proofs.Common.{◌≡◌, ℕ, zero, suc, ◌+◌, ◌-◌, ◌<◌, ◌≤◌, min, inl, inr, refl, ap, ◌∙◌, Bool, arith, ℤ, pos, ◌+ℤ◌}
use Rattle.std.proofs.lemmas.Bool.{cases_order}
use Rattle.calendar_values.specs.Calendar.{IsCalendarDate, is_leap_year, days_in_month, days_in_months, day_of_calendar_date, year_of, month_of}
use Rattle.calendar_values.specs.Calendar.{day_of_month_of}
use Rattle.calendar_values.specs.CalendarDateLemmas.{days_in_month_bounds, days_in_months-twelve, IsCalendarDate-of, year_of-calendar_date}
use Rattle.calendar_values.specs.CalendarDateLemmas.{month_of-calendar_date}
use Rattle.calendar_values.specs.CalendarDateLemmas.{day_of_month_of-calendar_date}
use Rattle.calendar_values.specs.MonthNumberLemmas.{month_number_bounds}
use Rattle.calendar_values.specs.SignedArith.{signed_arith}
use Rattle.calendar_values.specs.YearLemmas.{year_start-next}
use Rattle.calendar_values.specs.Months.{last_of_month, month_index}

-- the first day of a month is of that year and month
IsCalendarDate-first : (y : ℤ) (m : ℕ) → 1 ≤ m → m ≤ 12 → IsCalendarDate y m 1
IsCalendarDate-first y m first last = omega (arith, days_in_month_bounds (is_leap_year y) m)

pub year_of-first : (n y : ℤ) (m : ℕ) → 1 ≤ m → m ≤ 12 → n ≡ day_of_calendar_date y m 1 → year_of n ≡ y
year_of-first n y m first last e = rw e (year_of-calendar_date y m 1 (IsCalendarDate-first y m first last))

pub month_of-first : (n y : ℤ) (m : ℕ) → 1 ≤ m → m ≤ 12 → n ≡ day_of_calendar_date y m 1 → month_of n ≡ m
month_of-first n y m first last e = rw e (month_of-calendar_date y m 1 (IsCalendarDate-first y m first last))

pub day_of_month_of-first : (n y : ℤ) (m : ℕ) → 1 ≤ m → m ≤ 12 → n ≡ day_of_calendar_date y m 1 → day_of_month_of n ≡ 1
day_of_month_of-first n y m first last e = rw e (day_of_month_of-calendar_date y m 1 (IsCalendarDate-first y m first last))

-- a day of a month, or the month's last day if the month is shorter, is a day of that month
IsCalendarDate-clamped : (y : ℤ) (m d : ℕ) → 1 ≤ m → m ≤ 12 → 1 ≤ d → IsCalendarDate y m (min d (days_in_month (is_leap_year y) m))
IsCalendarDate-clamped y m d first last some = omega (arith, days_in_month_bounds (is_leap_year y) m)

pub year_of-clamped : (n y : ℤ) (m d : ℕ) → 1 ≤ m → m ≤ 12 → 1 ≤ d
    → n ≡ day_of_calendar_date y m (min d (days_in_month (is_leap_year y) m)) → year_of n ≡ y
year_of-clamped n y m d first last some e = rw e (year_of-calendar_date y m _ (IsCalendarDate-clamped y m d first last some))

pub month_of-clamped : (n y : ℤ) (m d : ℕ) → 1 ≤ m → m ≤ 12 → 1 ≤ d
    → n ≡ day_of_calendar_date y m (min d (days_in_month (is_leap_year y) m)) → month_of n ≡ m
month_of-clamped n y m d first last some e = rw e (month_of-calendar_date y m _ (IsCalendarDate-clamped y m d first last some))

pub day_of_month_of-clamped : (n y : ℤ) (m d : ℕ) → 1 ≤ m → m ≤ 12 → 1 ≤ d
    → n ≡ day_of_calendar_date y m (min d (days_in_month (is_leap_year y) m)) → day_of_month_of n ≡ min d (days_in_month (is_leap_year y) m)
day_of_month_of-clamped n y m d first last some e =
    rw e (day_of_month_of-calendar_date y m _ (IsCalendarDate-clamped y m d first last some))

-- each day has a month of the year, and a day of that month
pub month_of_bounds : (n : ℤ) → (1 ≤ month_of n) × (month_of n ≤ 12)
month_of_bounds n = let date = IsCalendarDate-of n in (date.month_first, date.month_last)

days_in_months-none : (b : Bool) → days_in_months b 0 ≡ 0
unfolding days_in_months
days_in_months-none b = refl

days_in_months-more : (b : Bool) (n : ℕ) → days_in_months b (suc n) ≡ days_in_months b n + days_in_month b (suc n)
unfolding days_in_months
days_in_months-more b n = refl

-- the day after the last of a month begins the next month
next_month : (y : ℤ) (m : ℕ) → 1 ≤ m → day_of_calendar_date y m (days_in_month (is_leap_year y) m) +ℤ pos 1 ≡ day_of_calendar_date y (m + 1) 1
next_month y zero first = absurd (omega arith)
next_month y (suc k) first =
    let before : suc k - 1 ≡ k = omega arith in
    let after : suc k + 1 - 1 ≡ suc k = omega arith in
    rw (before, after) (omega (arith, signed_arith, days_in_months-more (is_leap_year y) k))

-- the day after December begins January of the next year
next_year : (y : ℤ) → day_of_calendar_date y 12 (days_in_month (is_leap_year y) 12) +ℤ pos 1 ≡ day_of_calendar_date (y +ℤ pos 1) 1 1
next_year y =
    let b = is_leap_year y in
    omega (arith, signed_arith, year_start-next y, days_in_months-twelve b, days_in_months-more b 11, days_in_months-none (is_leap_year (y +ℤ pos 1)))

-- the day after the last of the month of a day d is the first of the next month
december : (d : ℤ) → month_of d ≡ 12 → last_of_month d +ℤ pos 1 ≡ day_of_calendar_date (year_of d +ℤ pos 1) 1 1
unfolding last_of_month
december d last =
    let y = year_of d in
    ap (λ (m : ℕ). day_of_calendar_date y m (days_in_month (is_leap_year y) m) +ℤ pos 1) last ∙ next_year y

before_december : (d : ℤ) → last_of_month d +ℤ pos 1 ≡ day_of_calendar_date (year_of d) (month_of d + 1) 1
unfolding last_of_month
before_december d = next_month (year_of d) (month_of d) (IsCalendarDate-of d).month_first

pub day_of_month_of-next_month : (d : ℤ) → day_of_month_of (last_of_month d +ℤ pos 1) ≡ 1
day_of_month_of-next_month d =
    let m = month_of d in
    let date = IsCalendarDate-of d in
    elim (cases_order m 12) [
      | inl last ↦ day_of_month_of-first _ (year_of d +ℤ pos 1) 1 (omega arith) (omega arith) (december d last)
      | inr (inl before) ↦ day_of_month_of-first _ (year_of d) (m + 1) (omega arith) (omega arith) (before_december d)
      | inr (inr after) ↦ absurd (omega arith)
    ]

pub year_of-next_month : (d : ℤ) → month_of d < 12 → year_of (last_of_month d +ℤ pos 1) ≡ year_of d
year_of-next_month d before =
    year_of-first _ (year_of d) (month_of d + 1) (omega arith) (omega arith) (before_december d)

pub month_of-next_month : (d : ℤ) → month_of d < 12 → month_of (last_of_month d +ℤ pos 1) ≡ month_of d + 1
month_of-next_month d before =
    month_of-first _ (year_of d) (month_of d + 1) (omega arith) (omega arith) (before_december d)

pub year_of-next_year : (d : ℤ) → month_of d ≡ 12 → year_of (last_of_month d +ℤ pos 1) ≡ year_of d +ℤ pos 1
year_of-next_year d last = year_of-first _ (year_of d +ℤ pos 1) 1 (omega arith) (omega arith) (december d last)

pub month_of-next_year : (d : ℤ) → month_of d ≡ 12 → month_of (last_of_month d +ℤ pos 1) ≡ 1
month_of-next_year d last = month_of-first _ (year_of d +ℤ pos 1) 1 (omega arith) (omega arith) (december d last)

-- either way the next month is the next by number
pub month_index-next_month : (d : ℤ) → month_index (last_of_month d +ℤ pos 1) ≡ month_index d +ℤ pos 1
month_index-next_month d =
    let date = IsCalendarDate-of d in
    elim (cases_order (month_of d) 12) [
      | inl last ↦ omega (arith, signed_arith, year_of-next_year d last, month_of-next_year d last)
      | inr (inl before) ↦ omega (arith, signed_arith, year_of-next_month d before, month_of-next_month d before)
      | inr (inr after) ↦ absurd (omega arith)
    ]

-- the rules that callers name
pub ruleset month_days = (
  days_in_month_bounds,
  month_number_bounds,
  month_of_bounds,
  year_of-first,
  month_of-first,
  day_of_month_of-first,
  year_of-clamped,
  month_of-clamped,
  day_of_month_of-clamped,
)

-- the rules that callers name if they step from a month to the next
pub ruleset next_months = (
  day_of_month_of-next_month,
  year_of-next_month,
  month_of-next_month,
  year_of-next_year,
  month_of-next_year,
  month_index-next_month,
)

-- The first number that is out of its range: the tests of the ranges, from left to right.
use Rattle.std.proofs.Common.{◌≡◌, ℕ, ◌<◌, ◌≤◌, Bool, true, false, nat_eq, nat_lt, refl, arith, Ok, Err, ℤ, pos, to_z, w32}
use Rattle.std.specs.Prelude.{◌||◌}
use Rattle.std.proofs.lemmas.Bool.Decides.{nat_tests}
use Rattle.calendar_values.specs.Calendar.{is_leap_year, days_in_month, day_of_calendar_date}
use Rattle.calendar_values.specs.Clock.{AreTimeParts}
use Rattle.calendar_values.specs.Refusals.{IsDateOfRange}
use Rattle.calendar_values.specs.SignedArith.{signed_casts}
use Rattle.rfc3339.specs.declared.parts.Parts.{Parts}
use Rattle.rfc3339.specs.declared.refusal.Component.TheVariants.{Month, Day, Hour, Minute, Second, OffsetHour, OffsetMinute}
use Rattle.rfc3339.specs.declared.refusal.TextRefusal.TheVariants.{OutOfRange}
use Rattle.rfc3339.specs.FullDates.{full_date_meaning}
use Rattle.rfc3339.specs.Meaning.{meaning}

within : (most n : ℕ) → 1 ≤ n → n ≤ most → (nat_eq n 0 || nat_lt most n) ≡ false
within most n low high = grind (arith, nat_tests)

without : (most n : ℕ) → ¬ ((1 ≤ n) × (n ≤ most)) → (nat_eq n 0 || nat_lt most n) ≡ true
without most n h = choose (nat_eq n 0) (nat_lt most n) refl refl where
  choose : (s t : Bool) → nat_eq n 0 ≡ s → nat_lt most n ≡ t → (nat_eq n 0 || nat_lt most n) ≡ true
  choose true t e f = rw e refl
  choose false true e f = rw (e, f) refl
  choose false false e f = absurd (h (grind (arith, nat_tests), grind (arith, nat_tests)))

at_most : (most n : ℕ) → n ≤ most → nat_lt most n ≡ false
at_most most n h = grind (arith, nat_tests)

above : (most n : ℕ) → most < n → nat_lt most n ≡ true
above most n h = grind (arith, nat_tests)

-- the date is one of the calendar
pub record IsDated (p : Parts) : Type 0 where
  pub month_first : 1 ≤ p.month
  pub month_last : p.month ≤ 12
  pub day_first : 1 ≤ p.day
  pub day_last : p.day ≤ days_in_month (is_leap_year (pos p.year)) p.month

-- and so is the time of day
pub record IsTimed (p : Parts) : Type 0 where
  pub hour : p.hour ≤ 23
  pub minute : p.minute ≤ 59
  pub second : p.second ≤ 59

-- a year of four digits comes back from its bits as it was
pub back_year : (year : ℕ) → year ≤ 9_999 → to_z w32 year ≡ pos year
back_year year h = omega (arith, signed_casts)

pub IsDated-of : (p : Parts) (year : ℤ) (month : ℕ) → year ≡ pos p.year → month ≡ p.month → (1 ≤ p.month) × (p.month ≤ 12)
    → IsDateOfRange year month p.day → IsDated p
IsDated-of p year month e f m d =
    let day = rw (e, f) at d.1 in
    record { month_first = m.0; month_last = m.1; day_first = day.0; day_last = day.1 }

pub IsTimed-of : (p : Parts) → AreTimeParts p.hour p.minute p.second p.nanosecond → IsTimed p
IsTimed-of p h = omega arith

-- where nothing else is wrong with a time of day, the second is
pub second-over : (hour minute second nanosecond : ℕ) → ¬ AreTimeParts hour minute second nanosecond → hour ≤ 23 → minute ≤ 59 → nanosecond ≤ 999_999_999
    → 59 < second
second-over hour minute second nanosecond not a b d = choose (nat_lt 59 second) refl where
  choose : (t : Bool) → nat_lt 59 second ≡ t → 59 < second
  choose true t = grind (arith, nat_tests)
  choose false t = let low : second ≤ 59 = grind (arith, nat_tests) in let fits : AreTimeParts hour minute second nanosecond = omega arith in absurd (not fits)

pub meaning-month : (p : Parts) → ¬ ((1 ≤ p.month) × (p.month ≤ 12)) → Err (OutOfRange Month) ≡ meaning p
unfolding meaning
meaning-month p h = rw (without 12 p.month h) refl

-- a day that makes no date of the month, where the year is one of the range, is none of the month
pub no_day_of_month : (year month day : ℕ) (y : ℤ) (m : ℕ) → y ≡ pos year → m ≡ month → year ≤ 9_999 → ¬ IsDateOfRange y m day
    → ¬ ((1 ≤ day) × (day ≤ days_in_month (is_leap_year (pos year)) month))
no_day_of_month year month day y m e f low h =
    let other : ¬ IsDateOfRange (pos year) month day = rw (e, f) at h in λ d. other (omega (arith, signed_casts), d)

pub meaning-day : (p : Parts) (year : ℤ) (month : ℕ) → year ≡ pos p.year → month ≡ p.month → p.year ≤ 9_999 → (1 ≤ p.month) × (p.month ≤ 12)
    → ¬ IsDateOfRange year month p.day → Err (OutOfRange Day) ≡ meaning p
unfolding meaning
meaning-day p year month e f y m h =
    let day = no_day_of_month p.year p.month p.day year month e f y h in rw (within 12 p.month m.0 m.1, without _ p.day day) refl

pub meaning-hour : (p : Parts) → IsDated p → 23 < p.hour → Err (OutOfRange Hour) ≡ meaning p
unfolding meaning
meaning-hour p d h = rw (within 12 p.month d.month_first d.month_last, within _ p.day d.day_first d.day_last, above 23 p.hour h) refl

pub meaning-minute : (p : Parts) → IsDated p → p.hour ≤ 23 → 59 < p.minute → Err (OutOfRange Minute) ≡ meaning p
unfolding meaning
meaning-minute p d a h =
    rw (within 12 p.month d.month_first d.month_last, within _ p.day d.day_first d.day_last, at_most 23 p.hour a, above 59 p.minute h) refl

pub meaning-second : (p : Parts) → IsDated p → p.hour ≤ 23 → p.minute ≤ 59 → 59 < p.second → Err (OutOfRange Second) ≡ meaning p
unfolding meaning
meaning-second p d a b h =
    rw (
      within 12 p.month d.month_first d.month_last,
      within _ p.day d.day_first d.day_last,
      at_most 23 p.hour a,
      at_most 59 p.minute b,
      above 59 p.second h,
    ) refl

pub meaning-offset_hour : (p : Parts) → IsDated p → IsTimed p → 23 < p.offset_hour → Err (OutOfRange OffsetHour) ≡ meaning p
unfolding meaning
meaning-offset_hour p d t h =
    rw (
      within 12 p.month d.month_first d.month_last,
      within _ p.day d.day_first d.day_last,
      at_most 23 p.hour t.hour,
      at_most 59 p.minute t.minute,
      at_most 59 p.second t.second,
      above 23 p.offset_hour h,
    ) refl

pub meaning-offset_minute : (p : Parts) → IsDated p → IsTimed p → p.offset_hour ≤ 23 → 59 < p.offset_minute → Err (OutOfRange OffsetMinute) ≡ meaning p
unfolding meaning
meaning-offset_minute p d t a h =
    rw (
      within 12 p.month d.month_first d.month_last,
      within _ p.day d.day_first d.day_last,
      at_most 23 p.hour t.hour,
      at_most 59 p.minute t.minute,
      at_most 59 p.second t.second,
      at_most 23 p.offset_hour a,
      above 59 p.offset_minute h,
    ) refl

-- ---- what the numbers of a day mean

pub full_date_meaning-month : (year month day : ℕ) → ¬ ((1 ≤ month) × (month ≤ 12)) → Err (OutOfRange Month) ≡ full_date_meaning year month day
full_date_meaning-month year month day m = rw (without 12 month m) refl

pub full_date_meaning-day : (year month day : ℕ) → (1 ≤ month) × (month ≤ 12) → ¬ ((1 ≤ day) × (day ≤ days_in_month (is_leap_year (pos year)) month))
    → Err (OutOfRange Day) ≡ full_date_meaning year month day
full_date_meaning-day year month day m d = rw (within 12 month m.0 m.1, without (days_in_month (is_leap_year (pos year)) month) day d) refl

pub full_date_meaning-date : (year month day : ℕ) → (1 ≤ month) × (month ≤ 12) → (1 ≤ day) × (day ≤ days_in_month (is_leap_year (pos year)) month)
    → full_date_meaning year month day ≡ Ok (day_of_calendar_date (pos year) month day)
full_date_meaning-date year month day m d = rw (within 12 month m.0 m.1, within (days_in_month (is_leap_year (pos year)) month) day d.0 d.1) refl

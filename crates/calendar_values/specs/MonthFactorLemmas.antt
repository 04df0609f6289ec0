-- The month and the day of the month by one multiplication each.
use Rattle.std.proofs.Common.{◌≡◌, ℕ, zero, suc, ◌+◌, ◌-◌, ◌*◌, ◌/◌, ◌<◌, ◌≤◌, Bool, true, false, ◌&&◌, ◌==◌, nat_lt, cond, inl, inr, refl, arith}
use Rattle.std.proofs.lemmas.Bool.{cases_order, eqb-true, ltb-true, ltb-false}
use Rattle.std.proofs.lemmas.Bool.Decides.{nat_tests}
use Rattle.calendar_values.specs.CalendarDateLemmas.{IsMonthDay-of_ordinal, days_in_month_bounds}
use Rattle.calendar_values.specs.Calendar.{year_length, days_in_months, days_before_month, last_month_begun, month_of_ordinal, day_of_ordinal}

-- the number of days before March
abbrev pub until_march : Bool → ℕ
until_march is_leap = cond is_leap 60 59

-- the month that a product gives for a day counted from 1 January, or, two months later, from 1 March
abbrev pub month_by_product : ℕ → ℕ
month_by_product day = (day * 268 + 8031) / 8192

-- the day of the month that a product gives for such a day
abbrev pub day_by_product : ℕ → ℕ
day_by_product day = day - (month_by_product day * 3917 - 3866) / 128

-- the products agree with counting on a day of the year that is counted from a day some days and months after 1 January
abbrev agrees : Bool → ℕ → ℕ → ℕ → Bool
agrees b days months day =
    (month_of_ordinal b (days + day) == month_by_product day + months) && (day_of_ordinal b (days + day) == day_by_product day)

-- the products agree with counting on each of the first n such days
abbrev agrees_below : Bool → ℕ → ℕ → ℕ → Bool
agrees_below b days months zero = true
agrees_below b days months (suc n) = agrees_below b days months n && agrees b days months (suc n)

agrees-early : (b : Bool) → agrees_below b 0 0 (until_march b) ≡ true
unfolding month_of_ordinal day_of_ordinal last_month_begun days_in_months
agrees-early true = refl
agrees-early false = refl

agrees-late : (b : Bool) → agrees_below b (until_march b) 2 306 ≡ true
unfolding month_of_ordinal day_of_ordinal last_month_begun days_in_months
agrees-late true = refl
agrees-late false = refl

and-both : (s t : Bool) → s && t ≡ true → (s ≡ true) × (t ≡ true)
and-both true t e = (refl, e)
and-both false t e = grind (arith, nat_tests)

agrees-at : (b : Bool) (days months n day : ℕ) → agrees_below b days months n ≡ true → 1 ≤ day → day ≤ n →
    (month_of_ordinal b (days + day) ≡ month_by_product day + months) × (day_of_ordinal b (days + day) ≡ day_by_product day)
agrees-at b days months zero day t low high = absurd (omega arith)
agrees-at b days months (suc n) day t low high = elim (cases_order day (suc n)) [
  | inl e ↦ rw e (let last = and-both _ _ (and-both _ _ t).1 in (eqb-true _ _ last.0, eqb-true _ _ last.1))
  | inr (inl lt) ↦ agrees-at b days months n day (and-both _ _ t).0 low (omega arith)
  | inr (inr gt) ↦ absurd (omega arith)
]

-- up to the end of February the day is counted from 1 January
pub early-month : (b : Bool) (ordinal : ℕ) → 1 ≤ ordinal → ordinal ≤ until_march b → month_of_ordinal b ordinal ≡ month_by_product ordinal
early-month b ordinal low high =
    let same : 0 + ordinal ≡ ordinal = omega arith in
    let none : month_by_product ordinal + 0 ≡ month_by_product ordinal = omega arith in
    rw (same, none) at (agrees-at b 0 0 (until_march b) ordinal (agrees-early b) low high).0

pub early-day : (b : Bool) (ordinal : ℕ) → 1 ≤ ordinal → ordinal ≤ until_march b → day_of_ordinal b ordinal ≡ day_by_product ordinal
early-day b ordinal low high =
    let same : 0 + ordinal ≡ ordinal = omega arith in
    rw same at (agrees-at b 0 0 (until_march b) ordinal (agrees-early b) low high).1

-- from March on the day is counted from 1 March
pub late-month : (b : Bool) (ordinal : ℕ) → until_march b < ordinal → ordinal ≤ year_length b →
    month_of_ordinal b ordinal ≡ month_by_product (ordinal - until_march b) + 2
late-month b ordinal low high =
    let same : until_march b + (ordinal - until_march b) ≡ ordinal = omega arith in
    let most : ordinal - until_march b ≤ 306 = grind arith in
    rw same at (agrees-at b (until_march b) 2 306 (ordinal - until_march b) (agrees-late b) (omega arith) most).0

pub late-day : (b : Bool) (ordinal : ℕ) → until_march b < ordinal → ordinal ≤ year_length b →
    day_of_ordinal b ordinal ≡ day_by_product (ordinal - until_march b)
late-day b ordinal low high =
    let same : until_march b + (ordinal - until_march b) ≡ ordinal = omega arith in
    let most : ordinal - until_march b ≤ 306 = grind arith in
    rw same at (agrees-at b (until_march b) 2 306 (ordinal - until_march b) (agrees-late b) (omega arith) most).1

-- either way the day of the month is counted from 1
pub day_of_ordinal_bounds : (b : Bool) (ordinal : ℕ) → 1 ≤ ordinal → ordinal ≤ year_length b → (1 ≤ day_of_ordinal b ordinal) × (day_of_ordinal b ordinal ≤ 31)
day_of_ordinal_bounds b ordinal low high =
    let h = IsMonthDay-of_ordinal b ordinal low high in
    (h.day_first, omega (arith, h.day_last, days_in_month_bounds b (month_of_ordinal b ordinal)))

-- a leap year has a day more before each month from March on
leap_day-later : (n : ℕ) → days_in_months true (suc (suc n)) ≡ days_in_months false (suc (suc n)) + 1
unfolding days_in_months
leap_day-later zero = refl
leap_day-later (suc n) = grind (arith, nat_tests, leap_day-later n)

pub leap_day-counts : (b : Bool) (m : ℕ) → b && nat_lt 2 m ≡ true → days_before_month b m ≡ days_before_month false m + 1
leap_day-counts true m t = let e : m - 1 ≡ suc (suc (m - 3)) = omega (arith, ltb-true) in rw e (leap_day-later (m - 3))
leap_day-counts false m t = absurd cc

no_leap_day-early : (b : Bool) (m : ℕ) → m ≤ 2 → days_before_month b m ≡ days_before_month false m
unfolding days_in_months
no_leap_day-early b zero h = refl
no_leap_day-early b (suc zero) h = refl
no_leap_day-early b (suc (suc zero)) h = refl
no_leap_day-early b (suc (suc (suc m))) h = absurd (omega arith)

pub leap_day-none : (b : Bool) (m : ℕ) → b && nat_lt 2 m ≡ false → days_before_month b m ≡ days_before_month false m
leap_day-none true m t = no_leap_day-early true m (omega (arith, ltb-false))
leap_day-none false m t = refl

pub ruleset leap_days = (leap_day-counts, leap_day-none)

pub ruleset month_products = (early-month, early-day, late-month, late-day, day_of_ordinal_bounds)

-- Each day shows the date after that of the day before, and no other functions do.
use Rattle.std.proofs.Common.{◌≡◌, inl, inr, refl, sym, subst, ap, ◌∙◌, ℕ, zero, suc, ◌+◌, ◌-◌, ◌≤◌, arith, ℤ, pos, negsuc, ◌+ℤ◌, Bool}
use Rattle.std.proofs.lemmas.Bool.{cases_order}
use Rattle.calendar_values.specs.Calendar.{is_leap_year, year_length, days_in_year, days_in_month, days_in_months, days_before_month}
use Rattle.calendar_values.specs.Calendar.{IsCalendarDate, year_of, month_of, day_of_month_of, day_of_calendar_date}
use Rattle.calendar_values.specs.CalendarDateLemmas.{IsCalendarDate-of, day_of_calendar_date-of, ShowsDate-calendar_date}
use Rattle.calendar_values.specs.CalendarDateLemmas.{days_in_month_bounds, days_in_months-twelve}
use Rattle.calendar_values.specs.Dates.{ShowsDate}
use Rattle.calendar_values.specs.OnlyCalendar.{IsNextDate, IsCalendar}
use Rattle.calendar_values.specs.SignedArith.{signed_arith}
use Rattle.calendar_values.specs.YearLemmas.{year_start-1970, year_start-next}

months-suc : (b : Bool) (m : ℕ) → 1 ≤ m → days_before_month b (m + 1) ≡ days_before_month b m + days_in_month b m
unfolding days_in_months
months-suc b zero first = absurd (omega arith)
months-suc b (suc m) first =
    let back : suc m - 1 ≡ m = omega arith in
    let here : suc m + 1 - 1 ≡ suc m = omega arith in
    rw (back, here) refl

months-none : (b : Bool) → days_before_month b 1 ≡ 0
unfolding days_in_months
months-none b = refl

months-year : (b : Bool) → days_before_month b 12 + days_in_month b 12 ≡ year_length b
unfolding days_in_months
months-year b = sym (months-suc b 12 (omega arith)) ∙ days_in_months-twelve b

-- the day number of the next date is the next
day-next : (y : ℤ) (m d : ℕ) (y' : ℤ) (m' d' : ℕ) → IsCalendarDate y m d → IsNextDate y m d y' m' d'
    → day_of_calendar_date y' m' d' ≡ day_of_calendar_date y m d +ℤ pos 1
day-next y m d y' m' d' h (inl e) = rw (e.1, e.2, e.3) (omega (arith, signed_arith))
day-next y m d y' m' d' h (inr (inl e)) =
    rw (e.2, e.3, e.4) (omega (arith, signed_arith, months-suc (is_leap_year y) m h.month_first, e.0))
day-next y m d y' m' d' h (inr (inr e)) =
    rw (e.2, e.3, e.4) (omega (arith, signed_arith, year_start-next y, months-none (is_leap_year (y +ℤ pos 1)), last)) where
      last : days_before_month (is_leap_year y) m + d ≡ days_in_year y
      last = rw (e.0, e.1) (months-year (is_leap_year y))

-- each month has a first day
first_of_month : (y : ℤ) (m : ℕ) → 1 ≤ m → m ≤ 12 → IsCalendarDate y m 1
first_of_month y m first last = record {
  month_first = first;
  month_last = last;
  day_first = omega arith;
  day_last = omega (arith, days_in_month_bounds (is_leap_year y) m);
}

-- each date has a next date
next-of : (y : ℤ) (m d : ℕ) → IsCalendarDate y m d
    → (y' : ℤ) × (m' : ℕ) × (d' : ℕ) × IsCalendarDate y' m' d' × IsNextDate y m d y' m' d'
next-of y m d h = elim (cases_order d (days_in_month (is_leap_year y) m)) [
  | inl e ↦ elim (cases_order m 12) [
    | inl last ↦ (y +ℤ pos 1, 1, 1, first_of_month (y +ℤ pos 1) 1 (omega arith) (omega arith), inr (inr (e, last, refl, refl, refl)))
    | inr (inl before) ↦ (y, m + 1, 1, first_of_month y (m + 1) (omega arith) (omega arith), inr (inl (e, before, refl, refl, refl)))
    | inr (inr after) ↦ absurd (omega (arith, h.month_last))
  ]
  | inr (inl before) ↦
      let next : IsCalendarDate y m (d + 1)
      = record { month_first = h.month_first; month_last = h.month_last; day_first = omega arith; day_last = omega arith } in
      (y, m, d + 1, next, inl (before, refl, refl, refl))
  | inr (inr after) ↦ absurd (omega (arith, h.day_last))
]

-- ---- the definitions follow

same : (y : ℤ) (m d : ℕ) (a a' : ℤ) (b b' c c' : ℕ) → a' ≡ a → b' ≡ b → c' ≡ c → IsNextDate y m d a b c → IsNextDate y m d a' b' c'
same y m d a a' b b' c c' e f g h = rw (e, f, g) h

follow : (n : ℤ) → IsNextDate (year_of n) (month_of n) (day_of_month_of n) (year_of (n +ℤ pos 1)) (month_of (n +ℤ pos 1)) (day_of_month_of (n +ℤ pos 1))
follow n =
    let here = IsCalendarDate-of n in
    let next = next-of (year_of n) (month_of n) (day_of_month_of n) here in
    let number : day_of_calendar_date next.0 next.1 next.2 ≡ n +ℤ pos 1
    = day-next (year_of n) (month_of n) (day_of_month_of n) next.0 next.1 next.2 here next.4 ∙ ap (λ (z : ℤ). z +ℤ pos 1) (day_of_calendar_date-of n) in
    let shown = subst (λ z. ShowsDate next.0 next.1 next.2 z) number (ShowsDate-calendar_date next.0 next.1 next.2 next.3) in
    same (year_of n) (month_of n) (day_of_month_of n) next.0 (year_of (n +ℤ pos 1)) next.1 (month_of (n +ℤ pos 1)) next.2 (day_of_month_of (n +ℤ pos 1))
    shown.year shown.month shown.day next.4

-- ---- and no other functions

-- the day number of the date that three functions show on a day
abbrev number_at : (y : ℤ → ℤ) (m d : ℤ → ℕ) → ℤ → ℤ
number_at y m d n = day_of_calendar_date (y n) (m n) (d n)

number-0 : (y : ℤ → ℤ) (m d : ℤ → ℕ) → IsCalendar y m d → number_at y m d (pos 0) ≡ pos 0
number-0 y m d h =
    rw (h.epoch_year, h.epoch_month, h.epoch_day) (omega (arith, signed_arith, year_start-1970, months-none (is_leap_year (pos 1970))))

number-next : (y : ℤ → ℤ) (m d : ℤ → ℕ) → IsCalendar y m d → (n k : ℤ) → k ≡ n +ℤ pos 1
    → number_at y m d k ≡ number_at y m d n +ℤ pos 1
number-next y m d h n k e =
    subst (λ z. number_at y m d z ≡ number_at y m d n +ℤ pos 1) (sym e)
    (day-next (y n) (m n) (d n) (y (n +ℤ pos 1)) (m (n +ℤ pos 1)) (d (n +ℤ pos 1)) (h.dates n) (h.follow n))

add-one : (a b c : ℤ) → a ≡ b +ℤ pos 1 → b ≡ c → a ≡ c +ℤ pos 1
add-one a b c e f = omega (arith, signed_arith)

less-one : (a b c : ℤ) → a ≡ b +ℤ pos 1 → a ≡ c +ℤ pos 1 → b ≡ c
less-one a b c e f = omega (arith, signed_arith)

pos-suc : (n : ℕ) → pos (suc n) ≡ pos n +ℤ pos 1
pos-suc n = omega (arith, signed_arith)

neg-next : (n : ℕ) → negsuc n ≡ negsuc (suc n) +ℤ pos 1
neg-next n = omega (arith, signed_arith)

neg-last : pos 0 ≡ negsuc 0 +ℤ pos 1
neg-last = omega (arith, signed_arith)

number-up : (y : ℤ → ℤ) (m d : ℤ → ℕ) → IsCalendar y m d → (n : ℕ) → number_at y m d (pos n) ≡ pos n
number-up y m d h zero = number-0 y m d h
number-up y m d h (suc n) =
    add-one (number_at y m d (pos (suc n))) (number_at y m d (pos n)) (pos n)
    (number-next y m d h (pos n) (pos (suc n)) (pos-suc n)) (number-up y m d h n) ∙ sym (pos-suc n)

number-down : (y : ℤ → ℤ) (m d : ℤ → ℕ) → IsCalendar y m d → (n : ℕ) → number_at y m d (negsuc n) ≡ negsuc n
number-down y m d h zero =
    less-one (number_at y m d (pos 0)) (number_at y m d (negsuc 0)) (negsuc 0)
    (number-next y m d h (negsuc 0) (pos 0) neg-last) (number-0 y m d h ∙ neg-last)
number-down y m d h (suc n) =
    less-one (number_at y m d (negsuc n)) (number_at y m d (negsuc (suc n))) (negsuc (suc n))
    (number-next y m d h (negsuc (suc n)) (negsuc n) (neg-next n)) (number-down y m d h n ∙ neg-next n)

number : (y : ℤ → ℤ) (m d : ℤ → ℕ) → IsCalendar y m d → (n : ℤ) → number_at y m d n ≡ n
number y m d h (pos n) = number-up y m d h n
number y m d h (negsuc n) = number-down y m d h n

pub only_calendar : (y : ℤ → ℤ) (m d : ℤ → ℕ) → IsCalendar y m d → (n : ℤ) → ShowsDate (y n) (m n) (d n) n
only_calendar y m d h n = subst (λ z. ShowsDate (y n) (m n) (d n) z) (number y m d h n) (ShowsDate-calendar_date (y n) (m n) (d n) (h.dates n))

epoch : ShowsDate (pos 1970) 1 1 (pos 0)
epoch =
    let date : IsCalendarDate (pos 1970) 1 1 = first_of_month (pos 1970) 1 (omega arith) (omega arith) in
    let zero_day : day_of_calendar_date (pos 1970) 1 1 ≡ pos 0 = omega (arith, signed_arith, year_start-1970, months-none (is_leap_year (pos 1970))) in
    subst (λ z. ShowsDate (pos 1970) 1 1 z) zero_day (ShowsDate-calendar_date (pos 1970) 1 1 date)

pub is_calendar : IsCalendar year_of month_of day_of_month_of
is_calendar = record { epoch_year = epoch.year; epoch_month = epoch.month; epoch_day = epoch.day; dates = IsCalendarDate-of; follow = follow }

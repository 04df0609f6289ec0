-- Each day has the day of the week after that of the day before, and lies in its ISO week; and no other functions do.
use Rattle.std.proofs.Common.{◌≡◌, ◌≢◌, ◌⊎◌, inl, inr, refl, sym, subst, ap, ◌∙◌, ℕ, zero, suc, ◌+◌, ◌-◌, ◌*◌, ◌%◌, ◌<◌, ◌≤◌, arith}
use Rattle.std.proofs.Common.{ℤ, pos, negsuc, ◌+ℤ◌, ◌-ℤ◌, ◌≤ℤ◌, Bool}
use Rattle.std.proofs.lemmas.Bool.{cases_order}
use Rattle.calendar_values.specs.Calendar.{year_start, year_of, ordinal_of, days_in_year, IsOrdinalDate, IsCalendarDate, day_of_calendar_date}
use Rattle.calendar_values.specs.Calendar.{day_of_ordinal_date, month_of, day_of_month_of, is_leap_year, days_in_months, days_before_month}
use Rattle.calendar_values.specs.CalendarDateLemmas.{day_of_calendar_date-of, ShowsDate-calendar_date, days_in_month_bounds}
use Rattle.calendar_values.specs.Dates.{ShowsDate}
use Rattle.calendar_values.specs.DayLemmas.{IsOrdinalDate-of, ordinal_of-start, year_of-is, ordinal_of-is}
use Rattle.calendar_values.specs.IsoWeekDateLemmas.{day_of_iso_week_date-of, iso_week_of-first, iso_week_of-last, weeks_in_year-closed}
use Rattle.calendar_values.specs.OnlyWeeks.{IsWeekday, IsIsoWeek}
use Rattle.calendar_values.specs.SignedArith.{signed_arith}
use Rattle.calendar_values.specs.WeekLemmas.{weekday_of-parts, weekday_of-bound, weekday_of-add, iso_week_of-closed, weekday_of-monday}
use Rattle.calendar_values.specs.Weeks.{count_weekday_of_year, weekday_of, thursday_of, monday_of, iso_year_of, iso_week_of, weeks_in_year}
use Rattle.calendar_values.specs.YearLemmas.{year_start-next, days_in_year_bounds}

-- ---- the day of the week

at_epoch : weekday_of (pos 0) ≡ 3
at_epoch = omega (arith, signed_arith, weekday_of-parts (pos 0))

next_day : (w : ℤ → ℕ) → IsWeekday w → (n k : ℤ) → k ≡ n +ℤ pos 1 → w k ≡ (w n + 1) % 7
next_day w h n k e = subst (λ z. w z ≡ (w n + 1) % 7) (sym e) (h.follow n)

bound : (w : ℤ → ℕ) → IsWeekday w → (n : ℤ) → w n < 7
bound w h n = omega (arith, next_day w h (n -ℤ pos 1) n (omega (arith, signed_arith)))

up_from : (w : ℤ → ℕ) → IsWeekday w → (n : ℕ) → w (pos n) ≡ weekday_of (pos n)
up_from w h zero = h.epoch ∙ sym at_epoch
up_from w h (suc n) =
    let e : pos (suc n) ≡ pos n +ℤ pos 1 = omega (arith, signed_arith) in
    omega (arith, next_day w h (pos n) (pos (suc n)) e, weekday_of-add (pos n) (pos (suc n)) 1 e, up_from w h n)

back_from : (w : ℤ → ℕ) → IsWeekday w → (n k : ℤ) → k ≡ n +ℤ pos 1 → w k ≡ weekday_of k → w n ≡ weekday_of n
back_from w h n k e f = omega (arith, next_day w h n k e, weekday_of-add n k 1 e, bound w h n, weekday_of-bound n)

down_from : (w : ℤ → ℕ) → IsWeekday w → (n : ℕ) → w (negsuc n) ≡ weekday_of (negsuc n)
down_from w h zero = back_from w h (negsuc 0) (pos 0) (omega (arith, signed_arith)) (up_from w h 0)
down_from w h (suc n) = back_from w h (negsuc (suc n)) (negsuc n) (omega (arith, signed_arith)) (down_from w h n)

pub only_weekday : (w : ℤ → ℕ) → IsWeekday w → (n : ℤ) → w n ≡ weekday_of n
only_weekday w h (pos n) = up_from w h n
only_weekday w h (negsuc n) = down_from w h n

pub is_weekday : IsWeekday weekday_of
is_weekday = record { epoch = at_epoch; follow = λ n. weekday_of-add n (n +ℤ pos 1) 1 refl }

-- ---- the ISO week: the definitions

same_week : (n k : ℤ) → k ≡ n +ℤ pos 1 → weekday_of k ≢ 0 → thursday_of k ≡ thursday_of n
same_week n k e h = omega (arith, signed_arith, weekday_of-add n k 1 e, weekday_of-bound n)

next_week : (n k : ℤ) → k ≡ n +ℤ pos 1 → weekday_of k ≡ 0 → thursday_of k ≡ thursday_of n +ℤ pos 7
next_week n k e h = omega (arith, signed_arith, weekday_of-add n k 1 e, weekday_of-bound n)

on_monday : (n k : ℤ) → k ≡ n +ℤ pos 1 → weekday_of k ≡ 0
    → ((iso_year_of k ≡ iso_year_of n) × (iso_week_of k ≡ iso_week_of n + 1)) ⊎ ((iso_year_of k ≡ iso_year_of n +ℤ pos 1) × (iso_week_of k ≡ 1))
on_monday n k e h =
    let t = thursday_of n in
    let u = thursday_of k in
    let y = year_of t in
    let o = ordinal_of t in
    let place = IsOrdinalDate-of t in
    let later : u ≡ t +ℤ pos 7 = next_week n k e h in
    elim (cases_order (days_in_year y) (o + 7)) [
      | inl same ↦
          let date : IsOrdinalDate y (o + 7) = record { first = omega arith; last = omega arith } in
          let number : day_of_ordinal_date y (o + 7) ≡ u = omega (arith, signed_arith, ordinal_of-start t) in
          inl (year_of-is u y (o + 7) date number, omega (arith, iso_week_of-closed n, iso_week_of-closed k, ordinal_of-is u y (o + 7) date number))
      | inr (inl less) ↦
          let p = o + 7 - days_in_year y in
          let date : IsOrdinalDate (y +ℤ pos 1) p = record { first = omega arith; last = omega (arith, place.last, days_in_year_bounds (y +ℤ pos 1)) } in
          let number : day_of_ordinal_date (y +ℤ pos 1) p ≡ u = omega (arith, signed_arith, ordinal_of-start t, year_start-next y) in
          inr (year_of-is u (y +ℤ pos 1) p date number, omega (arith, iso_week_of-closed k, place.last, ordinal_of-is u (y +ℤ pos 1) p date number))
      | inr (inr more) ↦
          let date : IsOrdinalDate y (o + 7) = record { first = omega arith; last = omega arith } in
          let number : day_of_ordinal_date y (o + 7) ≡ u = omega (arith, signed_arith, ordinal_of-start t) in
          inl (year_of-is u y (o + 7) date number, omega (arith, iso_week_of-closed n, iso_week_of-closed k, ordinal_of-is u y (o + 7) date number))
    ]

months_none : (b : Bool) → days_before_month b 1 ≡ 0
unfolding days_in_months
months_none b = refl

the_day : (y a n : ℤ) (m d m' d' : ℕ) → y ≡ a → m ≡ m' → d ≡ d' → day_of_calendar_date y m d ≡ n → day_of_calendar_date a m' d' ≡ n
the_day y a n m d m' d' e f g h = rw (← e, ← f, ← g) h

-- the day number of 4 January
fourth : (a n : ℤ) → ShowsDate a 1 4 n → n ≡ year_start a +ℤ pos 3
fourth a n h =
    let e : day_of_calendar_date a 1 4 ≡ n = the_day (year_of n) a n (month_of n) (day_of_month_of n) 1 4 h.year h.month h.day (day_of_calendar_date-of n) in
    omega (arith, signed_arith, months_none (is_leap_year a))

fourth-shows : (a n : ℤ) → n ≡ year_start a +ℤ pos 3 → ShowsDate a 1 4 n
fourth-shows a n e =
    let date : IsCalendarDate a 1 4 = record {
      month_first = omega arith;
      month_last = omega arith;
      day_first = omega arith;
      day_last = omega (arith, days_in_month_bounds (is_leap_year a) 1);
    } in
    let number : day_of_calendar_date a 1 4 ≡ n = omega (arith, signed_arith, months_none (is_leap_year a)) in
    subst (λ z. ShowsDate a 1 4 z) number (ShowsDate-calendar_date a 1 4 date)

on_january_4 : (a n : ℤ) → ShowsDate a 1 4 n → (iso_year_of n ≡ a) × (iso_week_of n ≡ 1)
on_january_4 a n h =
    let o = 7 - weekday_of n in
    let low = weekday_of-bound n in
    let date : IsOrdinalDate a o = record { first = omega arith; last = omega (arith, days_in_year_bounds a) } in
    let number : day_of_ordinal_date a o ≡ thursday_of n = omega (arith, signed_arith, fourth a n h) in
    (year_of-is (thursday_of n) a o date number, omega (arith, iso_week_of-closed n, ordinal_of-is (thursday_of n) a o date number))

-- ---- and no other functions

-- a day later, in the week of the day before
stay : (y : ℤ → ℤ) (k : ℤ → ℕ) → IsIsoWeek y k → (n m : ℤ) → m ≡ n +ℤ pos 1 → weekday_of m ≢ 0 → (y m ≡ y n) × (k m ≡ k n)
stay y k h n m e = subst (λ z. weekday_of z ≢ 0 → (y z ≡ y n) × (k z ≡ k n)) (sym e) (h.other n)

go_on : (y : ℤ → ℤ) (k : ℤ → ℕ) → IsIsoWeek y k → (n m : ℤ) → m ≡ n +ℤ pos 1 → weekday_of m ≡ 0
    → ((y m ≡ y n) × (k m ≡ k n + 1)) ⊎ ((y m ≡ y n +ℤ pos 1) × (k m ≡ 1))
go_on y k h n m e =
    subst (λ z. weekday_of z ≡ 0 → ((y z ≡ y n) × (k z ≡ k n + 1)) ⊎ ((y z ≡ y n +ℤ pos 1) × (k z ≡ 1))) (sym e) (h.monday n)

-- the days of a week have what its Monday has
through : (y : ℤ → ℤ) (k : ℤ → ℕ) → IsIsoWeek y k → (m : ℤ) → weekday_of m ≡ 0 → (j : ℕ) → j < 7 → (n : ℤ) → n ≡ m +ℤ pos j → (y n ≡ y m) × (k n ≡ k m)
through y k h m monday zero low n e = let same : n ≡ m = omega (arith, signed_arith) in rw same (refl, refl)
through y k h m monday (suc j) low n e =
    let before = through y k h m monday j (omega arith) (m +ℤ pos j) refl in
    let step = stay y k h (m +ℤ pos j) n (omega (arith, signed_arith)) (omega (arith, weekday_of-add m n (suc j) e)) in
    (step.0 ∙ before.0, step.1 ∙ before.1)

-- a week later
week_later : (y : ℤ → ℤ) (k : ℤ → ℕ) → IsIsoWeek y k → (m n : ℤ) → weekday_of m ≡ 0 → n ≡ m +ℤ pos 7
    → ((y n ≡ y m) × (k n ≡ k m + 1)) ⊎ ((y n ≡ y m +ℤ pos 1) × (k n ≡ 1))
week_later y k h m n monday e =
    let sunday = through y k h m monday 6 (omega arith) (m +ℤ pos 6) refl in
    let step = go_on y k h (m +ℤ pos 6) n (omega (arith, signed_arith)) (omega (arith, weekday_of-add m n 7 e)) in
    rw (sunday.0, sunday.1) at step

-- the year and the week come after week 1 of a year
abbrev Past : ℤ → ℤ → ℕ → Type 0
Past a y k = ((a +ℤ pos 1) ≤ℤ y) ⊎ ((y ≡ a) × (2 ≤ k))

past-next : (a y z : ℤ) (k l : ℕ) → Past a y k → ((z ≡ y) × (l ≡ k + 1)) ⊎ ((z ≡ y +ℤ pos 1) × (l ≡ 1)) → Past a z l
past-next a y z k l (inl later) (inl s) = inl (omega (arith, signed_arith))
past-next a y z k l (inl later) (inr s) = inl (omega (arith, signed_arith))
past-next a y z k l (inr here) (inl s) = inr (s.0 ∙ here.0, omega arith)
past-next a y z k l (inr here) (inr s) = inl (omega (arith, signed_arith))

past-on : (y : ℤ → ℤ) (k : ℤ → ℕ) → IsIsoWeek y k → (a m : ℤ) → weekday_of m ≡ 0 → Past a (y m) (k m)
    → (e : ℕ) (n : ℤ) → n ≡ m +ℤ pos (7 * e) → Past a (y n) (k n)
past-on y k h a m monday past zero n e = let same : n ≡ m = omega (arith, signed_arith) in rw same past
past-on y k h a m monday past (suc i) n e =
    let p = m +ℤ pos (7 * i) in
    past-next a (y p) (y n) (k p) (k n) (past-on y k h a m monday past i p refl)
    (week_later y k h p n (omega (arith, weekday_of-add m p (7 * i) refl)) (omega (arith, signed_arith)))

-- so no Monday of another week has week 1 of that year
beyond : (y : ℤ → ℤ) (k : ℤ → ℕ) → IsIsoWeek y k → (a m n : ℤ) (e : ℕ) → weekday_of m ≡ 0 → y m ≡ a → k m ≡ 1
    → n ≡ m +ℤ pos (7 * (e + 1)) → y n ≡ a → k n ≡ 1 → ⊥
beyond y k h a m n e monday year week later year' week' =
    let p = m +ℤ pos 7 in
    let first : Past a (y p) (k p) = elim (week_later y k h m p monday refl) [
      | inl s ↦ inr (s.0 ∙ year, omega arith)
      | inr s ↦ inl (omega (arith, signed_arith))
    ] in
    elim (past-on y k h a p (omega (arith, weekday_of-add m p 7 refl)) first e n (omega (arith, signed_arith))) [
      | inl past ↦ omega (arith, signed_arith)
      | inr past ↦ omega arith
    ]

-- the Monday of week 1 of a year
abbrev start : ℤ → ℤ
start a = monday_of (year_start a +ℤ pos 3)

start-next : (a : ℤ) → start (a +ℤ pos 1) ≡ start a +ℤ pos (7 * weeks_in_year a)
start-next a =
    let j = year_start a +ℤ pos 3 in
    let j' = year_start (a +ℤ pos 1) +ℤ pos 3 in
    let l = days_in_year a in
    let here = weekday_of-add (year_start a) j 3 refl in
    let there = weekday_of-add (year_start a) j' (l + 3) (omega (arith, signed_arith, year_start-next a)) in
    omega (arith, signed_arith, year_start-next a, weeks_in_year-closed a)

at_start : (y : ℤ → ℤ) (k : ℤ → ℕ) → IsIsoWeek y k → (a : ℤ) → (y (start a) ≡ a) × (k (start a) ≡ 1)
at_start y k h a =
    let j = year_start a +ℤ pos 3 in
    let same = through y k h (start a) (weekday_of-monday j) (weekday_of j) (weekday_of-bound j) j (omega (arith, signed_arith)) in
    let fourth_day = h.january_4 a j (fourth-shows a j refl) in
    (sym same.0 ∙ fourth_day.0, sym same.1 ∙ fourth_day.1)

run : (y : ℤ → ℤ) (k : ℤ → ℕ) → IsIsoWeek y k → (a : ℤ) (i : ℕ) → i < weeks_in_year a → (m : ℤ) → m ≡ start a +ℤ pos (7 * i) → (y m ≡ a) × (k m ≡ i + 1)
run y k h a zero low m e =
    let same : m ≡ start a = omega (arith, signed_arith) in
    rw same (at_start y k h a)
run y k h a (suc i) low m e =
    let p = start a +ℤ pos (7 * i) in
    let first = weekday_of-monday (year_start a +ℤ pos 3) in
    let before = run y k h a i (omega arith) p refl in
    elim (week_later y k h p m (omega (arith, weekday_of-add (start a) p (7 * i) refl)) (omega (arith, signed_arith))) [
      | inl s ↦ (s.0 ∙ before.0, omega arith)
      | inr s ↦
          let next = at_start y k h (a +ℤ pos 1) in
          let year : y m ≡ a +ℤ pos 1 = s.0 ∙ ap (λ (z : ℤ). z +ℤ pos 1) before.0 in
          let rest = weeks_in_year a - suc (suc i) in
          absurd (beyond y k h (a +ℤ pos 1) m (start (a +ℤ pos 1)) rest (omega (arith, weekday_of-add (start a) m (7 * suc i) e)) year s.1
          (omega (arith, signed_arith, start-next a)) next.0 next.1)
    ]

pub only_iso_week : (y : ℤ → ℤ) (k : ℤ → ℕ) → IsIsoWeek y k → (n : ℤ) → (y n ≡ iso_year_of n) × (k n ≡ iso_week_of n)
only_iso_week y k h n =
    let a = iso_year_of n in
    let w = iso_week_of n in
    let m = monday_of n in
    let first = iso_week_of-first n in
    let at_monday = run y k h a (w - 1) (omega (arith, iso_week_of-last n)) m (omega (arith, signed_arith, day_of_iso_week_date-of n)) in
    let same = through y k h m (weekday_of-monday n) (weekday_of n) (weekday_of-bound n) n (omega (arith, signed_arith)) in
    (same.0 ∙ at_monday.0, omega arith)

pub is_iso_week : IsIsoWeek iso_year_of iso_week_of
is_iso_week = record {
  monday = λ n. on_monday n (n +ℤ pos 1) refl;
  other = λ n not_monday. let e = same_week n (n +ℤ pos 1) refl not_monday in (ap year_of e, ap (λ (z : ℤ). count_weekday_of_year 3 z) e);
  january_4 = on_january_4;
}

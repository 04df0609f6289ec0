-- Texts of fixed width compare as their instants do.
use Rattle.std.proofs.Common.{◌≡◌, ◌⊎◌, inl, inr, ℕ, zero, suc, ◌+◌, ◌-◌, ◌/◌, ◌%◌, ◌≤◌, ◌<◌, Bool, List, ◌∷◌, ◌++◌, append_assoc, refl, sym, ap}
use Rattle.std.proofs.Common.{◌∙◌, arith, ℤ, pos, ◌+ℤ◌, ◌≤ℤ◌, ◌<ℤ◌, unsigned_abs}
use Rattle.std.specs.Cmp.{int_cmp_is}
use Rattle.std.specs.Cmp.Lexicographic.{slice_cmp}
use Rattle.std.specs.Ordering.{nat_cmp, int_cmp, ordering_then, ordering_reverse}
use Rattle.std.specs.declared.cmp.Ordering.{Ordering}
use Rattle.std.specs.declared.cmp.Ordering.TheVariants.{Less, Equal, Greater}
use Rattle.std.proofs.lemmas.Bool.Decides.{nat_tests}
use Rattle.std.proofs.lemmas.Cmp.{nat_list_cmp_total, tied_itself}
use Rattle.calendar_values.specs.Calendar.{is_leap_year, year_of, month_of, day_of_month_of, days_in_month, days_in_months, days_before_month}
use Rattle.calendar_values.specs.Calendar.{day_of_calendar_date}
use Rattle.calendar_values.specs.Clock.{hour_of, minute_of, second_of, nanosecond_of}
use Rattle.calendar_values.specs.DayLemmas.{IsInYear-year_of}
use Rattle.calendar_values.specs.Digits.{last_digits}
use Rattle.calendar_values.specs.CalendarDateLemmas.{IsCalendarDate-of, day_of_calendar_date-of}
use Rattle.calendar_values.specs.SignedArith.{signed_arith}
use Rattle.calendar_values.specs.WallClock.{wall_clock, wall_day, wall_time}
use Rattle.calendar_values.specs.WallClockLemmas.{wall_clock-parts, IsClock-wall_time}
use Rattle.calendar_values.specs.YearLemmas.{year_start-mono}
use Rattle.offset_times.specs.Local.{local_in_utc}
use Rattle.rfc3339.specs.Texts.{HasFixedText, fixed_text, parts_of}
use Rattle.rfc3339.specs.ValueLemmas.{year_is, IsDateTime-fixed}
use Rattle.rfc3339.specs.WrittenDigitLemmas.{HasDigits}

-- ---- digits

-- the last digits are compared where the numbers before them are the same
pub digits_order : (k m n : ℕ) (xs ys : List ℕ) → HasDigits k m → HasDigits k n
    → slice_cmp nat_cmp (last_digits k m ++ xs) (last_digits k n ++ ys) ≡ ordering_then (nat_cmp m n) (slice_cmp nat_cmp xs ys)
unfolding last_digits
digits_order zero m n xs ys a b = rw (a, b) refl
digits_order (suc k) m n xs ys a b =
    simp append_assoc (digits_order k (m / 10) (n / 10) ((48 + m % 10) ∷ xs) ((48 + n % 10) ∷ ys) a b ∙ grind (arith, nat_tests))

-- ---- dates

pub int_cases : (a b : ℤ) → (a <ℤ b) ⊎ ((a ≡ b) ⊎ (b <ℤ a))
int_cases a b = grind (arith, signed_arith)

months-add : (b : Bool) (m k : ℕ) → days_in_months b m ≤ days_in_months b (k + m)
unfolding days_in_months
months-add b m zero = let same : 0 + m ≡ m = omega arith in rw same (omega arith)
months-add b m (suc k) = let next : suc k + m ≡ suc (k + m) = omega arith in rw next (omega (arith, months-add b m k))

-- a later month begins after the days of this one
pub month-later : (b : Bool) (m later : ℕ) → 1 ≤ m → m < later → days_before_month b m + days_in_month b m ≤ days_before_month b later
unfolding days_in_months
month-later b zero later first h = absurd (omega arith)
month-later b (suc m) later first h =
    let before : suc m - 1 ≡ m = omega arith in
    let after : later - 1 ≡ later - 1 - suc m + suc m = omega arith in rw (before, after) (months-add b (suc m) (later - 1 - suc m))

-- the order of the years, the months and the days of the month
abbrev pub date_cmp : ℤ → ℤ → Ordering → Ordering
date_cmp m n rest =
    ordering_then (nat_cmp (unsigned_abs (year_of m)) (unsigned_abs (year_of n)))
    (ordering_then (nat_cmp (month_of m) (month_of n)) (ordering_then (nat_cmp (day_of_month_of m) (day_of_month_of n)) rest))

pub date_order : (m n : ℤ) (rest : Ordering) → pos 0 ≤ℤ year_of m → pos 0 ≤ℤ year_of n → m <ℤ n → date_cmp m n rest ≡ Less
date_order m n rest p q less =
    let y = year_is (year_of m) p in
    let z = year_is (year_of n) q in
    let h = IsCalendarDate-of m in
    let k = IsCalendarDate-of n in
    let of_m = day_of_calendar_date-of m in
    let of_n = day_of_calendar_date-of n in
    elim (int_cases (year_of m) (year_of n)) [
      | inl earlier ↦
          let years : unsigned_abs (year_of m) < unsigned_abs (year_of n) = omega (arith, signed_arith) in grind (arith, nat_tests)
      | inr (inl same) ↦
          let years : unsigned_abs (year_of m) ≡ unsigned_abs (year_of n) = ap unsigned_abs same in
          let start = ap (λ (t : ℤ). day_of_calendar_date t (month_of n) (day_of_month_of n)) same in
          let last = ap (λ (t : ℤ). days_in_month (is_leap_year t) (month_of n)) same in
          let before = days_before_month (is_leap_year (year_of m)) in
          let after = month-later (is_leap_year (year_of m)) (month_of n) (month_of m) k.month_first in
          let days : before (month_of m) + day_of_month_of m < before (month_of n) + day_of_month_of n = omega (arith, signed_arith) in
          let first = h.day_first in grind (arith, nat_tests)
      | inr (inr later) ↦
          let in_m = IsInYear-year_of m in
          let in_n = IsInYear-year_of n in
          absurd (omega (arith, signed_arith, year_start-mono (year_of n +ℤ pos 1) (year_of m) (omega (arith, signed_arith))))
    ]

-- ---- clocks

-- the order of the hours, the minutes, the seconds and the nanoseconds
abbrev clock_cmp : ℕ → ℕ → Ordering
clock_cmp c d =
    ordering_then (nat_cmp (hour_of c) (hour_of d))
    (ordering_then (nat_cmp (minute_of c) (minute_of d))
    (ordering_then (nat_cmp (second_of c) (second_of d)) (ordering_then (nat_cmp (nanosecond_of c) (nanosecond_of d)) Equal)))

clock_order : (c d : ℕ) → c < d → clock_cmp c d ≡ Less
clock_order c d less = grind (arith, nat_tests)

-- ---- texts

texts_order : (i j : ℤ) → HasFixedText i → HasFixedText j
    → slice_cmp nat_cmp (fixed_text i) (fixed_text j) ≡ date_cmp (wall_day i) (wall_day j) (clock_cmp (wall_time i) (wall_time j))
unfolding fixed_text
texts_order i j h k =
    let p = parts_of (local_in_utc i) in
    let q = parts_of (local_in_utc j) in
    let a = (IsDateTime-fixed i h).fits in
    let b = (IsDateTime-fixed j k).fits in
    simp append_assoc (rw (
      digits_order 4 p.year q.year _ _ (omega arith) (omega arith),
      digits_order 2 p.month q.month _ _ (omega arith) (omega arith),
      digits_order 2 p.day q.day _ _ (omega arith) (omega arith),
      digits_order 2 p.hour q.hour _ _ (omega arith) (omega arith),
      digits_order 2 p.minute q.minute _ _ (omega arith) (omega arith),
      digits_order 2 p.second q.second _ _ (omega arith) (omega arith),
      digits_order 9 p.nanosecond q.nanosecond _ _ (omega arith) (omega arith),
    ) refl)

earlier_text : (i j : ℤ) → HasFixedText i → HasFixedText j → i <ℤ j → slice_cmp nat_cmp (fixed_text i) (fixed_text j) ≡ Less
earlier_text i j h k less =
    let a : wall_clock (wall_day i) (wall_time i) ≡ i = wall_clock-parts i in
    let b : wall_clock (wall_day j) (wall_time j) ≡ j = wall_clock-parts j in
    let c = IsClock-wall_time i in
    let d = IsClock-wall_time j in
    texts_order i j h k
    ∙ elim (int_cases (wall_day i) (wall_day j)) [
      | inl earlier ↦ date_order (wall_day i) (wall_day j) _ h.year_first k.year_first earlier
      | inr (inl same) ↦ rw (same, clock_order (wall_time i) (wall_time j) (omega (arith, signed_arith))) (grind (arith, nat_tests))
      | inr (inr later) ↦ absurd (omega (arith, signed_arith))
    ]

pub fixed_text-order : (i j : ℤ) (first second : List ℕ) → HasFixedText i → HasFixedText j → first ≡ fixed_text i → second ≡ fixed_text j
    → slice_cmp nat_cmp first second ≡ int_cmp i j
fixed_text-order i j first second h k a b =
    rw (a, b) (elim (int_cases i j) [
      | inl less ↦ earlier_text i j h k less ∙ int_cmp_is i j Less less
      | inr (inl same) ↦
          ap (λ (t : ℤ). slice_cmp nat_cmp (fixed_text i) (fixed_text t)) (sym same) ∙ tied_itself nat_list_cmp_total (fixed_text i) ∙ int_cmp_is i j Equal same
      | inr (inr less) ↦
          nat_list_cmp_total.antisymm (fixed_text i) (fixed_text j) ∙ ap ordering_reverse (earlier_text j i k h less) ∙ int_cmp_is i j Greater less
    ])

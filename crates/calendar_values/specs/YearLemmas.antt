-- The first days of years: each year begins after the days of the one before; a closed form; the order of years.
use Rattle.std.proofs.Common.{◌≡◌, ℕ, zero, suc, ◌+◌, ◌-◌, ◌*◌, ◌/◌, ◌<◌, ◌≤◌, refl, cond, arith, ℤ, pos, negsuc, neg_ℤ, ◌+ℤ◌, ◌-ℤ◌, ◌<ℤ◌, ◌≤ℤ◌}
use Rattle.std.proofs.lemmas.Bool.Decides.{nat_tests}
use Rattle.std.proofs.lemmas.Int.{by_lt_z}
use borrow.Author.Differences.{up, down}
use Rattle.calendar_values.specs.Calendar.{is_leap_year, days_in_year, days_from_1970, days_until_1970, days_of_years, year_start, IsInYear}
use Rattle.calendar_values.specs.Range.{first_year, last_year, first_day, last_day}
use Rattle.calendar_values.specs.SignedArith.{signed_arith}

-- 1 in a leap year, and else 0
abbrev pub leap_day : ℤ → ℕ
leap_day y = cond (is_leap_year y) 1 0

pub days_in_year-leap_day : (y : ℤ) → days_in_year y ≡ 365 + leap_day y
days_in_year-leap_day y = grind arith

-- the rule has a period of 400 years
pub leap_day-shift : (k n : ℕ) (y : ℤ) → y +ℤ pos (400 * k) ≡ pos n → leap_day y ≡ leap_day (pos n)
leap_day-shift k n (pos a) e = let h : a + 400 * k ≡ n = omega (arith, signed_arith) in grind (arith, nat_tests)
leap_day-shift k n (negsuc a) e = let h : n + suc a ≡ 400 * k = omega (arith, signed_arith) in grind (arith, nat_tests)

-- the days of the first n years from the year 0 on
abbrev pub days_from_0 : ℕ → ℕ
days_from_0 n = 365 * n + (n + 3) / 4 + (n + 399) / 400 - (n + 99) / 100

pub days_from_0-suc : (n : ℕ) → days_from_0 (suc n) ≡ days_from_0 n + 365 + leap_day (pos n)
days_from_0-suc n = grind (arith, nat_tests)

pub days_from_0-shift : (n k : ℕ) → days_from_0 (n + 400 * k) ≡ days_from_0 n + 146097 * k
days_from_0-shift n k = omega arith

pub year_start-1970 : year_start (pos 1970) ≡ pos 0
unfolding year_start days_of_years days_from_1970
year_start-1970 = refl

year_start_forward : (n : ℕ) → year_start (pos 1970 +ℤ pos n) ≡ pos (days_from_1970 n)
unfolding year_start days_of_years days_from_1970
year_start_forward n = let e : pos 1970 +ℤ pos n -ℤ pos 1970 ≡ pos n = omega (arith, signed_arith) in rw e

year_start_backward : (n : ℕ) → year_start (pos 1970 -ℤ pos n) ≡ neg_ℤ (pos (days_until_1970 n))
unfolding year_start days_of_years days_from_1970 days_until_1970
year_start_backward zero = refl
year_start_backward (suc n) = let e : pos 1970 -ℤ pos (suc n) -ℤ pos 1970 ≡ negsuc n = omega (arith, signed_arith) in rw e

-- the next year begins after the days of this one
pub year_start-next : (y : ℤ) → year_start (y +ℤ pos 1) ≡ year_start y +ℤ pos (days_in_year y)
unfolding days_from_1970 days_until_1970
year_start-next y = step (y -ℤ pos 1970) y refl where
  step : (k y : ℤ) → y -ℤ pos 1970 ≡ k → year_start (y +ℤ pos 1) ≡ year_start y +ℤ pos (days_in_year y)
  step (pos n) y e =
      let here : y ≡ pos 1970 +ℤ pos n = omega (arith, signed_arith) in
      let next : y +ℤ pos 1 ≡ pos 1970 +ℤ pos (suc n) = omega (arith, signed_arith) in
      rw (next, here, year_start_forward (suc n), year_start_forward n) refl
  step (negsuc n) y e =
      let here : y ≡ pos 1970 -ℤ pos (suc n) = omega (arith, signed_arith) in
      let next : y +ℤ pos 1 ≡ pos 1970 -ℤ pos n = omega (arith, signed_arith) in
      rw (next, here, year_start_backward (suc n), year_start_backward n) (omega (arith, signed_arith))

closed_forward : (j k n : ℕ) → 1970 + j + 400 * k ≡ n → days_from_1970 j + 719528 + 146097 * k ≡ days_from_0 n
unfolding days_from_1970
closed_forward zero k n e = omega arith
closed_forward (suc j) k n e =
    let m = 1970 + j + 400 * k in
    let more : n ≡ suc m = omega arith in
    let shift = leap_day-shift k m (pos 1970 +ℤ pos j) refl in
    rw more (omega (arith, closed_forward j k m refl, days_from_0-suc m, days_in_year-leap_day (pos 1970 +ℤ pos j)))

closed_backward : (j k n : ℕ) → n + j ≡ 1970 + 400 * k → days_from_0 n + days_until_1970 j ≡ 719528 + 146097 * k
unfolding days_until_1970
closed_backward zero k n e = omega arith
closed_backward (suc j) k n e =
    let y = pos 1970 -ℤ pos (suc j) in
    let here : y +ℤ pos (400 * k) ≡ pos n = omega (arith, signed_arith) in
    omega (arith, closed_backward j k (suc n) (omega arith), days_from_0-suc n, leap_day-shift k n y here, days_in_year-leap_day y)

-- counted from a multiple of 400 years before the year 0, so that no number is negative
pub year_start-closed : (k n : ℕ) (y : ℤ) → y +ℤ pos (400 * k) ≡ pos n → year_start y +ℤ pos (719528 + 146097 * k) ≡ pos (days_from_0 n)
year_start-closed k n y e = by_sign (y -ℤ pos 1970) refl where
  by_sign : (j : ℤ) → y -ℤ pos 1970 ≡ j → year_start y +ℤ pos (719528 + 146097 * k) ≡ pos (days_from_0 n)
  by_sign (pos j) h =
      let here : y ≡ pos 1970 +ℤ pos j = omega (arith, signed_arith) in
      rw (here, year_start_forward j) (omega (arith, signed_arith, closed_forward j k n (omega (arith, signed_arith))))
  by_sign (negsuc j) h =
      let here : y ≡ pos 1970 -ℤ pos (suc j) = omega (arith, signed_arith) in
      rw (here, year_start_backward (suc j)) (omega (arith, signed_arith, closed_backward (suc j) k n (omega (arith, signed_arith))))

days_from_0-later : (m n : ℕ) → m < n → days_from_0 m + 365 ≤ days_from_0 n
days_from_0-later m n h = omega arith

-- a later year begins at least a common year later
pub year_start-later : (y z : ℤ) → y <ℤ z → (year_start y +ℤ pos 365) ≤ℤ year_start z
year_start-later y z h =
    let k = up y + down y + up z + down z in
    let m = up y + 400 * k - down y in
    let n = up z + 400 * k - down z in
    let start = year_start-closed k m y (omega (arith, signed_arith)) in
    let later = year_start-closed k n z (omega (arith, signed_arith)) in
    omega (arith, signed_arith, days_from_0-later m n (omega (arith, signed_arith)))

pub year_start-mono : (y z : ℤ) → y ≤ℤ z → year_start y ≤ℤ year_start z
year_start-mono y z h = by_lt_z y z (λ lt. omega (arith, signed_arith, year_start-later y z lt)) (λ ge. let e : y ≡ z = omega (arith, signed_arith) in
    rw e (omega (arith, signed_arith)))

pub days_in_year_bounds : (y : ℤ) → (365 ≤ days_in_year y) × (days_in_year y ≤ 366)
days_in_year_bounds y = grind arith

-- a day is in one year at most
pub IsInYear-unique : (n y z : ℤ) → IsInYear n y → IsInYear n z → y ≡ z
IsInYear-unique n y z h k =
    by_lt_z y z (λ lt. absurd (omega (arith, signed_arith, year_start-mono (y +ℤ pos 1) z (omega (arith, signed_arith)))))
    (λ ge. by_lt_z z y (λ gt. absurd (omega (arith, signed_arith, year_start-mono (z +ℤ pos 1) y (omega (arith, signed_arith)))))
    (λ le. omega (arith, signed_arith)))

-- the ends of the range
pub year_start-first : year_start first_year ≡ first_day
year_start-first = omega (arith, signed_arith, year_start-closed 2500 1 first_year refl)

pub year_start-after_last : year_start (last_year +ℤ pos 1) ≡ last_day +ℤ pos 1
year_start-after_last = omega (arith, signed_arith, year_start-closed 0 1_000_000 (last_year +ℤ pos 1) refl)

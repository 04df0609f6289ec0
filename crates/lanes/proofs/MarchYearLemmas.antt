-- What one lane computes of a date is what the definitions say, and the days up to it are those of the calendar.
use Rattle.std.proofs.Common.{◌≡◌, ℕ, zero, suc, ◌+◌, ◌-◌, ◌*◌, ◌/◌, ◌%◌, ◌^◌, ◌<◌, ◌≤◌, Bool, true, false, ◌&&◌, ◌==◌, cond, eqb, ltb, leb, refl}
use Rattle.std.proofs.Common.{sym, ◌∙◌, ap, arith, bit_and, w32, Fits, inl, inr}
use Rattle.std.proofs.lemmas.Bool.{cases_order, eqb-true}
use Rattle.std.proofs.lemmas.Bool.Decides.{nat_tests}
use Rattle.std.proofs.lemmas.Nat.{and_mask}
use lib.Lanes.{top}
use Rattle.lanes.specs.MarchYears.{bit_of, is_within, month_before_march, march_year_of, leap_day_of, days_to_march, days_from_march}
use Rattle.lanes.proofs.LaneLemmas.{top-compared}

-- a select by a comparison
pub bit_of-compared : (t u : Bool) → t ≡ u → cond {A = ℕ} (top 31 (cond t (2 ^ 32 - 1) 0)) 1 0 ≡ bit_of u
bit_of-compared t u e = rw (top-compared t, e) refl

within-test : (first last n : ℕ) → first ≤ last → last < 2 ^ 32 → n < 2 ^ 32 →
    leb ((n + (2 ^ 32 - first)) % 2 ^ 32) (last - first) ≡ is_within first last n
within-test first last n h k l = grind (arith, nat_tests)

pub within-lane : (first last : ℕ) → first ≤ last → last < 2 ^ 32 → (n : ℕ) → Fits w32 n →
    cond {A = ℕ} (top 31 (cond (leb ((n + (2 ^ 32 - first)) % 2 ^ 32) (last - first)) (2 ^ 32 - 1) 0)) 1 0 ≡ bit_of (is_within first last n)
within-lane first last h k n fits =
    let below : n < 2 ^ 32 = fits.fits in
    bit_of-compared _ _ (within-test first last n h k below)

day-test : (d l : ℕ) → d < 2 ^ 32 → l < 2 ^ 31 → ltb ((d + (2 ^ 32 - 1)) % 2 ^ 32) l ≡ is_within 1 l d
day-test d l h k = grind (arith, nat_tests)

pub day-lane : (d l : ℕ) → Fits w32 d × (l < 2 ^ 31) →
    cond {A = ℕ} (top 31 (cond (ltb ((d + (2 ^ 32 - 1)) % 2 ^ 32) l) (2 ^ 32 - 1) 0)) 1 0 ≡ bit_of (is_within 1 l d)
day-lane d l h =
    let below : d < 2 ^ 32 = h.0.fits in
    bit_of-compared _ _ (day-test d l below h.1)

pub march_year-lane : (y m : ℕ) → (y + (2 ^ 32 - cond (top 31 (cond (ltb m 3) (2 ^ 32 - 1) 0)) 1 0)) % 2 ^ 32 ≡ march_year_of y m
march_year-lane y m = rw (top-compared (ltb m 3)) refl

-- the bits of a year that are 0 in a leap year
leap_bits-is : (t : Bool) (y : ℕ) → eqb (bit_and y (cond t 15 3)) 0 ≡ eqb (y % cond t 16 4) 0
leap_bits-is true y = rw (and_mask y 4) refl
leap_bits-is false y = rw (and_mask y 2) refl

-- the last two digits of a year
abbrev rest : ℕ → ℕ
rest n = (n + (2 ^ 32 - n / 100 * 100 % 2 ^ 32)) % 2 ^ 32

rest-is : (n : ℕ) → n < 2 ^ 32 → rest n ≡ n % 100
rest-is n h = omega arith

pub leap_day-lane : (y n : ℕ) → Fits w32 n →
    cond {A = ℕ} (top 31 (cond (eqb (bit_and y (cond (top 31 (cond (eqb (rest n) 99) (2 ^ 32 - 1) 0)) 15 3)) 0) (2 ^ 32 - 1) 0)) 1 0 ≡ leap_day_of y n
leap_day-lane y n fits =
    let below : n < 2 ^ 32 = fits.fits in
    let last = top-compared (eqb (rest n) 99) in
    rw (last, rest-is n below) (bit_of-compared _ _ (leap_bits-is (eqb (n % 100) 99) y))

pub days_to_march-lane : (y : ℕ) → y < 2_000_000 →
    ((y * 1_461 % 2 ^ 32 / 2 ^ 2 + (2 ^ 32 - y / 100)) % 2 ^ 32 + y / 100 / 2 ^ 2) % 2 ^ 32 ≡ days_to_march y
days_to_march-lane y h = omega arith

pub days_from_march-lane : (m : ℕ) → (1 ≤ m) × (m ≤ 12) →
    (((m + cond (top 31 (cond (ltb m 3) (2 ^ 32 - 1) 0)) 12 0) % 2 ^ 32 * 979 % 2 ^ 32 + (2 ^ 32 - 2_919)) % 2 ^ 32) / 2 ^ 5 ≡ days_from_march m
days_from_march-lane m h = rw (top-compared (ltb m 3)) (choose (ltb m 3) m h.0 h.1 refl)
  where
    choose : (t : Bool) (m : ℕ) → 1 ≤ m → m ≤ 12 → ltb m 3 ≡ t →
        (((m + cond t 12 0) % 2 ^ 32 * 979 % 2 ^ 32 + (2 ^ 32 - 2_919)) % 2 ^ 32) / 2 ^ 5 ≡ ((m + 12 * cond {A = ℕ} t 1 0) * 979 - 2_919) / 32
    choose true m low high e = omega arith
    choose false m low high e = let late : 3 ≤ m = grind (arith, nat_tests) in omega arith

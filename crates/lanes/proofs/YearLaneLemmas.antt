-- What one lane computes is what the definitions of the calendar say.
use Rattle.std.proofs.Common.{◌≡◌, ℕ, zero, suc, ◌+◌, ◌-◌, ◌*◌, ◌/◌, ◌%◌, ◌^◌, ◌<◌, ◌≤◌, Bool, true, false, ◌||◌, ◌&&◌, ◌==◌, cond, eqb, ltb, inl, inr, refl}
use Rattle.std.proofs.Common.{arith, bit_and, w32, w64, Fits}
use Rattle.std.proofs.lemmas.Bool.{cases_order, eqb-true}
use Rattle.std.proofs.lemmas.Bool.Decides.{nat_tests}
use Rattle.std.proofs.lemmas.Nat.{and_mask}
use lib.Lanes.{top}
use Rattle.calendar_values.specs.Calendar.{month_of_ordinal, day_of_ordinal, last_month_begun, days_in_months}
use Rattle.calendar_values.specs.Reciprocal.{IsShiftedDay, IsJulianCount, century_of, century_fraction_of, julian_count, years_of, step_leap}
use Rattle.lanes.specs.YearLanes.{julian_bit, leap_bit, ordinal_of_fraction, IsOrdinalLane}
use Rattle.lanes.proofs.LaneLemmas.{top-compared}

-- the products fit, and so do their halves
pub century-fits : (day : ℕ) → IsShiftedDay day → Fits w64 (day * 3_853_261_555)
century-fits day h = record { fits = omega arith }

pub year-fits : (day : ℕ) → IsJulianCount day → Fits w64 (day * 3_010_298_776)
year-fits day h = record { fits = omega arith }

pub high-fits : (x : ℕ) → Fits w64 x → Fits w32 (x / 2 ^ 32)
high-fits x h = let below : x < 2 ^ 64 = h.fits in record { fits = omega arith }

pub low-is : (x : ℕ) → bit_and x 4_294_967_295 ≡ x % 2 ^ 32
low-is x = and_mask x 32

pub low-fits : (x : ℕ) → Fits w32 (bit_and x 4_294_967_295)
low-fits x = record { fits = omega (arith, low-is x) }

pub ordinal-fits : (fraction : ℕ) → Fits w32 fraction → Fits w64 (fraction * 1_461)
ordinal-fits fraction h = let below : fraction < 2 ^ 32 = h.fits in record { fits = omega arith }

pub ordinal_before-fits : (fraction : ℕ) → Fits w32 fraction → Fits w32 (fraction * 1_461 / 2 ^ 34)
ordinal_before-fits fraction h = let below : fraction < 2 ^ 32 = h.fits in record { fits = omega arith }

-- the year

or-bits : (s t : Bool) → cond {A = ℕ} s 1 (cond t 1 0) ≡ cond (t || s) 1 0
or-bits true true = refl
or-bits true false = refl
or-bits false true = refl
or-bits false false = refl

pub julian-lane : (c f : ℕ) →
    cond {A = ℕ} (top 31 (cond (eqb (bit_and c 3) 0) (2 ^ 32 - 1) 0)) 1 (cond (top 31 (cond (ltb 42_920_275 f) (2 ^ 32 - 1) 0)) 1 0) ≡ julian_bit c f
julian-lane c f = rw (top-compared (eqb (bit_and c 3) 0), top-compared (ltb 42_920_275 f), and_mask c 2) (or-bits (eqb (c % 4) 0) (ltb 42_920_275 f))

pub julian_bit-bound : (c f : ℕ) → julian_bit c f ≤ 1
julian_bit-bound c f = bound (ltb 42_920_275 f || eqb (c % 4) 0)
  where
    bound : (t : Bool) → cond {A = ℕ} t 1 0 ≤ 1
    bound true = omega arith
    bound false = omega arith

pub julian_count-lane : (day : ℕ) → IsShiftedDay day → ((day + (2 ^ 32 - century_of day / 2 ^ 2)) % 2 ^ 32 + century_of day) % 2 ^ 32 ≡ julian_count day
julian_count-lane day h = omega arith

pub IsJulianCount-julian_count : (day : ℕ) → IsShiftedDay day → IsJulianCount (julian_count day)
IsJulianCount-julian_count day h = omega arith

pub ordinal-lane : (f b : ℕ) → Fits w32 f × (b ≤ 1) → (f * 1_461 / 2 ^ 34 + b) % 2 ^ 32 ≡ ordinal_of_fraction f b
ordinal-lane f b h = let below : f < 2 ^ 32 = h.0.fits in let bit : b ≤ 1 = h.1 in omega arith

pub leap-lane : (y j : ℕ) → cond (top 31 (cond (eqb (bit_and y 3) 0) (2 ^ 32 - 1) 0)) j 0 ≡ leap_bit y j
leap-lane y j = rw (top-compared (eqb (bit_and y 3) 0), and_mask y 2) refl

and-bits : (s t : Bool) → cond s (cond {A = ℕ} t 1 0) 0 ≡ cond (s && t) 1 0
and-bits true t = refl
and-bits false t = refl

pub leap_bit-is : (day : ℕ) → leap_bit (years_of day) (julian_bit (century_of day) (century_fraction_of day)) ≡ cond (step_leap day) 1 0
leap_bit-is day = and-bits (eqb (years_of day % 4) 0) (ltb 42_920_275 (century_fraction_of day) || eqb (century_of day % 4) 0)

-- the month and the day

abbrev is_later : ℕ → ℕ → Bool
is_later leap ordinal = top 31 (cond (ltb ((leap + 59) % 2 ^ 32) ordinal) (2 ^ 32 - 1) 0)

-- the day, counted from 1 January or from 1 March
abbrev day_counted : ℕ → ℕ → ℕ
day_counted leap ordinal = (ordinal + (2 ^ 32 - cond (is_later leap ordinal) ((leap + 59) % 2 ^ 32) 0)) % 2 ^ 32

-- the month, counted from there
abbrev month_counted : ℕ → ℕ → ℕ
month_counted leap ordinal = (day_counted leap ordinal * 268 % 2 ^ 32 + 8_031) % 2 ^ 32 / 2 ^ 13

abbrev pub month_by_lane : ℕ → ℕ → ℕ
month_by_lane leap ordinal = (month_counted leap ordinal + cond (is_later leap ordinal) 2 0) % 2 ^ 32

abbrev pub day_by_lane : ℕ → ℕ → ℕ
day_by_lane leap ordinal =
    (day_counted leap ordinal + (2 ^ 32 - (month_counted leap ordinal * 3_917 % 2 ^ 32 + (2 ^ 32 - 3_866)) % 2 ^ 32 / 2 ^ 7)) % 2 ^ 32

-- a lane agrees with counting on a day of the year
abbrev agrees : ℕ → ℕ → Bool
agrees leap ordinal = (month_by_lane leap ordinal == month_of_ordinal (leap == 1) ordinal) && (day_by_lane leap ordinal == day_of_ordinal (leap == 1) ordinal)

-- and on each of the first n days
abbrev agrees_below : ℕ → ℕ → Bool
agrees_below leap zero = true
agrees_below leap (suc n) = agrees_below leap n && agrees leap (suc n)

agrees-leap : agrees_below 1 366 ≡ true
unfolding month_of_ordinal day_of_ordinal last_month_begun days_in_months
agrees-leap = refl

agrees-common : agrees_below 0 365 ≡ true
unfolding month_of_ordinal day_of_ordinal last_month_begun days_in_months
agrees-common = refl

and-both : (s t : Bool) → s && t ≡ true → (s ≡ true) × (t ≡ true)
and-both true t e = (refl, e)
and-both false t e = grind (arith, nat_tests)

agrees-at : (leap n ordinal : ℕ) → agrees_below leap n ≡ true → 1 ≤ ordinal → ordinal ≤ n →
    (month_by_lane leap ordinal ≡ month_of_ordinal (leap == 1) ordinal) × (day_by_lane leap ordinal ≡ day_of_ordinal (leap == 1) ordinal)
agrees-at leap zero ordinal t low high = absurd (omega arith)
agrees-at leap (suc n) ordinal t low high = elim (cases_order ordinal (suc n)) [
  | inl e ↦ rw e (let last = and-both _ _ (and-both _ _ t).1 in (eqb-true _ _ last.0, eqb-true _ _ last.1))
  | inr (inl lt) ↦ agrees-at leap n ordinal (and-both _ _ t).0 low (omega arith)
  | inr (inr gt) ↦ absurd (omega arith)
]

month_and_day-lane : (leap ordinal : ℕ) → IsOrdinalLane leap ordinal →
    (month_by_lane leap ordinal ≡ month_of_ordinal (leap == 1) ordinal) × (day_by_lane leap ordinal ≡ day_of_ordinal (leap == 1) ordinal)
month_and_day-lane zero ordinal h = agrees-at 0 365 ordinal agrees-common h.1 h.2
month_and_day-lane (suc zero) ordinal h = agrees-at 1 366 ordinal agrees-leap h.1 h.2
month_and_day-lane (suc (suc leap)) ordinal h = absurd (omega (arith, h.0))

pub month-lane : (leap ordinal : ℕ) → IsOrdinalLane leap ordinal → month_by_lane leap ordinal ≡ month_of_ordinal (leap == 1) ordinal
month-lane leap ordinal h = (month_and_day-lane leap ordinal h).0

pub day-lane : (leap ordinal : ℕ) → IsOrdinalLane leap ordinal → day_by_lane leap ordinal ≡ day_of_ordinal (leap == 1) ordinal
day-lane leap ordinal h = (month_and_day-lane leap ordinal h).1

-- the time of day

abbrev pub minutes : ℕ → ℕ
minutes s = s / 2 ^ 2 * 34_953 % 2 ^ 32 / 2 ^ 19

abbrev pub hours : ℕ → ℕ
hours s = minutes s * 1_093 % 2 ^ 32 / 2 ^ 16

minutes-is : (s : ℕ) → s < 86_400 → minutes s ≡ s / 60
minutes-is s h = omega arith

hours-is : (m : ℕ) → m < 1_440 → m * 1_093 % 2 ^ 32 / 2 ^ 16 ≡ m / 60
hours-is m h = omega arith

pub hour-lane : (s : ℕ) → s < 86_400 → hours s ≡ s / 60 / 60
hour-lane s h = rw (minutes-is s h) (hours-is (s / 60) (omega arith))

pub minute-lane : (s : ℕ) → s < 86_400 → (minutes s + (2 ^ 32 - hours s * 60 % 2 ^ 32)) % 2 ^ 32 ≡ s / 60 % 60
minute-lane s h = rw (hour-lane s h, minutes-is s h) (omega arith)

pub second-lane : (s : ℕ) → s < 86_400 → (s + (2 ^ 32 - minutes s * 60 % 2 ^ 32)) % 2 ^ 32 ≡ s % 60
second-lane s h = rw (minutes-is s h) (omega arith)

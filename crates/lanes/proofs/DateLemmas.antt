-- The date of one lane is that of its day, and a test of a lane says that a day is one of the range.
use Rattle.std.proofs.Common.{◌≡◌, ℕ, ◌+◌, ◌-◌, ◌*◌, ◌/◌, ◌%◌, ◌^◌, ◌<◌, ◌≤◌, ◌↔◌, Bool, true, ◌==◌, cond, eqb, leb, List, [], ◌∷◌, length, refl, sym, ◌∙◌}
use Rattle.std.proofs.Common.{ℤ, pos, negsuc, w32, FitsSigned, arith}
use Rattle.std.proofs.lemmas.Bool.{leb-true, le-leb, eqb-true}
use Rattle.std.proofs.lemmas.Int.{ints}
use Rattle.std.proofs.lemmas.Simd.{mask_l-lt}
use lib.Lanes.{mask_l, top}
use Rattle.calendar_values.specs.SignedArith.{signed_arith}
use Rattle.calendar_values.specs.Calendar.{year_length, month_of_ordinal, day_of_ordinal}
use Rattle.calendar_values.specs.CalendarDateLemmas.{IsMonthDay-of_ordinal, days_in_month_bounds}
use Rattle.calendar_values.specs.Range.{IsDay}
use Rattle.calendar_values.specs.Reciprocal.{shifted_day, IsShiftedDay, years_of, step_leap, step_ordinal}
use Rattle.calendar_values.specs.ReciprocalLemmas.{year_of-step, is_leap_year-step, ordinal_of-step, years_of-bound}
use Rattle.lanes.specs.Dates.{date_of, day_in_lane, date_by_steps, date_of_word}
use Rattle.lanes.specs.declared.dates.Date.{Date}
use Rattle.lanes.proofs.LaneLemmas.{top-compared}
use Rattle.lanes.proofs.MaskLemmas.{mask_l-full}
use Rattle.lanes.proofs.DateTimeLemmas.{IsOrdinalLane-step, bit-set, year-lane}

-- a day of the range, by its bits

day_in_lane-is : (n : ℤ) → IsDay n → day_in_lane n ≡ shifted_day n
day_in_lane-is (pos n) h = let below : n ≤ 364_522_971 = omega (arith, signed_arith, h.1) in omega (arith, ints)
day_in_lane-is (negsuc n) h = let below : n < 365_961_662 = omega (arith, signed_arith, h.0) in omega (arith, ints)

IsShiftedDay-shifted_day : (n : ℤ) → IsDay n → IsShiftedDay (shifted_day n)
IsShiftedDay-shifted_day n h = omega (arith, signed_arith)

pub IsShiftedDay-in_lane : (n : ℤ) → IsDay n → IsShiftedDay (day_in_lane n)
IsShiftedDay-in_lane n h = rw (day_in_lane-is n h) (IsShiftedDay-shifted_day n h)

-- the days from the first of the range to this day, in 32 bits
abbrev later : ℤ → ℕ
later n = (day_in_lane n + (2 ^ 32 - 503_888_919)) % 2 ^ 32

abbrev pub day_passes : ℤ → Bool
day_passes n = top 31 (cond (leb (later n) 730_484_633) (2 ^ 32 - 1) 0)

IsDay-passed : (n : ℤ) → FitsSigned w32 n → later n ≤ 730_484_633 → IsDay n
IsDay-passed (pos n) fits h =
    let below : n < 2 ^ 31 = fits.sfits in
    let most : n ≤ 364_522_971 = omega (arith, h) in
    (omega (arith, ints), omega (arith, signed_arith))
IsDay-passed (negsuc n) fits h =
    let below : n < 2 ^ 31 = fits.sfits in
    let most : n < 365_961_662 = omega (arith, h) in
    (omega (arith, signed_arith), omega (arith, ints))

IsDay-lane : (n : ℤ) → FitsSigned w32 n → day_passes n ≡ true → IsDay n
IsDay-lane n fits e = IsDay-passed n fits (leb-true _ _ (sym (top-compared (leb (later n) 730_484_633)) ∙ e))

lane-IsDay : (n : ℤ) → IsDay n → day_passes n ≡ true
lane-IsDay n h =
    let day = IsShiftedDay-in_lane n h in
    let low = day.0 in
    let high = day.1 in
    top-compared (leb (later n) 730_484_633) ∙ le-leb _ _ (omega (arith, low, high))

mask-bound : (ms : List Bool) → length ms ≡ 4 → mask_l ms < 16
mask-bound ms h = let below = mask_l-lt ms in rw h at below

mask-whole : (mask : ℕ) → mask < 16 → mask % 2 ^ 64 ≡ 15 → mask + 1 ≡ 16
mask-whole mask h e = omega arith

pub days-four : (a b c d : ℤ) → FitsSigned w32 a → FitsSigned w32 b → FitsSigned w32 c → FitsSigned w32 d →
    (eqb (mask_l (day_passes a ∷ day_passes b ∷ day_passes c ∷ day_passes d ∷ []) % 2 ^ 64) 15 ≡ true) ↔ (IsDay a × IsDay b × IsDay c × IsDay d)
days-four a b c d fit_a fit_b fit_c fit_d =
    let lanes = day_passes a ∷ day_passes b ∷ day_passes c ∷ day_passes d ∷ [] in (
      λ e. let all = mask_l-full lanes (mask-whole (mask_l lanes) (mask-bound lanes refl) (eqb-true _ _ e)) in (
        IsDay-lane a fit_a all.0,
        IsDay-lane b fit_b all.1.0,
        IsDay-lane c fit_c all.1.1.0,
        IsDay-lane d fit_d all.1.1.1.0,
      ),
      λ h. rw (lane-IsDay a h.0, lane-IsDay b h.1, lane-IsDay c h.2, lane-IsDay d h.3) refl,
    )

-- the date of a lane

word-parts : (m d : ℕ) → m < 256 → d < 256 →
    ((m + d * 2 ^ 8 % 2 ^ 32) % 2 ^ 32 % 256 ≡ m) × ((m + d * 2 ^ 8 % 2 ^ 32) % 2 ^ 32 / 256 % 256 ≡ d)
word-parts m d a b = (omega arith, omega arith)

same : {y y' : ℤ} {m m' d d' : ℕ} → y ≡ y' → m ≡ m' → d ≡ d' →
    ◌≡◌ {A = Date} (record { year = y; month = m; day = d }) (record { year = y'; month = m'; day = d' })
same a b c = cc

pub date-lane : (d : ℕ) → IsShiftedDay d →
    date_of_word ((years_of d + (2 ^ 32 - 2_379_600)) % 2 ^ 32)
    ((month_of_ordinal (cond {A = ℕ} (step_leap d) 1 0 == 1) (step_ordinal d) +
    day_of_ordinal (cond {A = ℕ} (step_leap d) 1 0 == 1) (step_ordinal d) * 2 ^ 8 % 2 ^ 32) % 2 ^ 32) ≡ date_by_steps d
date-lane d h =
    let is : cond {A = ℕ} (step_leap d) 1 0 == 1 ≡ step_leap d = bit-set (step_leap d) in
    let lane = IsOrdinalLane-step d h in
    let last : step_ordinal d ≤ year_length (step_leap d) = rw is at lane.2 in
    let date = IsMonthDay-of_ordinal (step_leap d) (step_ordinal d) lane.1 last in
    let month : month_of_ordinal (step_leap d) (step_ordinal d) < 256 = omega (arith, date.month_last) in
    let day : day_of_ordinal (step_leap d) (step_ordinal d) < 256 =
    omega (arith, date.day_last, days_in_month_bounds (step_leap d) (month_of_ordinal (step_leap d) (step_ordinal d))) in
    let parts = word-parts (month_of_ordinal (step_leap d) (step_ordinal d)) (day_of_ordinal (step_leap d) (step_ordinal d)) month day in
    rw is (same (year-lane (years_of d) (years_of-bound d h)) parts.0 parts.1)

date-counted : (n : ℤ) → IsDay n → date_by_steps (shifted_day n) ≡ date_of n
date-counted n h =
    let leap = is_leap_year-step n h in
    let ordinal = ordinal_of-step n h in
    same (sym (year_of-step n h)) (rw (leap, ordinal) refl) (rw (leap, ordinal) refl)

-- the steps find what counting finds
pub date_by_steps-in_lane : (n : ℤ) → IsDay n → date_by_steps (day_in_lane n) ≡ date_of n
date_by_steps-in_lane n h = rw (day_in_lane-is n h) (date-counted n h)

pub four-dates : {a b c d e f g h : Date} → a ≡ e → b ≡ f → c ≡ g → d ≡ h → a ∷ b ∷ c ∷ d ∷ [] ≡ e ∷ f ∷ g ∷ h ∷ []
four-dates p q r s = cc

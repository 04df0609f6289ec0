-- The date-time of one lane is what clocks show at its second.
use Rattle.std.proofs.Common.{◌≡◌, ℕ, ◌+◌, ◌-◌, ◌*◌, ◌/◌, ◌%◌, ◌^◌, ◌<◌, ◌≤◌, Bool, true, false, ◌==◌, cond, List, [], ◌∷◌, refl, sym, ◌∙◌, ap, subst, arith}
use Rattle.std.proofs.Common.{ℤ, pos, negsuc, suc, ◌-ℤ◌, w32, w64, to_z, of_z, inl, inr}
use Rattle.std.proofs.Math.Facts.{to_z-neg}
use Rattle.std.proofs.lemmas.Bool.{cases_order}
use Rattle.std.proofs.lemmas.Int.{ints, to_z_pos}
use lib.Lanes.{zip2}
use Rattle.calendar_values.specs.SignedArith.{signed_arith}
use Rattle.calendar_values.specs.Calendar.{year_length, is_leap_year, month_of_ordinal, day_of_ordinal}
use Rattle.calendar_values.specs.CalendarDateLemmas.{IsMonthDay-of_ordinal, days_in_month_bounds}
use Rattle.calendar_values.specs.Range.{IsDay}
use Rattle.calendar_values.specs.Reciprocal.{shifted_day, IsShiftedDay, years_of, step_year, step_leap, step_ordinal}
use Rattle.calendar_values.specs.ReciprocalLemmas.{year_of-step, is_leap_year-step, ordinal_of-step, IsOrdinalDateOfRange-found, years_of-bound}
use Rattle.lanes.specs.YearLanes.{IsOrdinalLane}
use Rattle.lanes.specs.DateTimes.{IsWallSecond, day_of_second, second_of_day, shifted_second, second_of_low_word}
use Rattle.lanes.specs.DateTimes.{date_time_of, date_time_by_steps, date_time_of_word}
use Rattle.lanes.specs.declared.date_times.DateTime.{DateTime}

IsDay-day_of_second : (w : ℤ) → IsWallSecond w → IsDay (day_of_second w)
IsDay-day_of_second w h = omega (arith, signed_arith)

-- the low words leave the second of the day
low_word-part : (day low second seconds : ℕ) → seconds ≡ day * 86_400 + second → low ≡ seconds % 2 ^ 32 → second < 86_400 → second_of_low_word day low ≡ second
low_word-part day low second seconds e f h = omega arith

shifted_second-parts : (w : ℤ) → IsWallSecond w → shifted_second w ≡ shifted_day (day_of_second w) * 86_400 + second_of_day w
shifted_second-parts w h = omega (arith, signed_arith)

second_of_day-bound : (w : ℤ) → second_of_day w < 86_400
second_of_day-bound w = omega (arith, signed_arith)

second-lane : (w : ℤ) (day low : ℕ) → IsWallSecond w → day ≡ shifted_day (day_of_second w) → low ≡ shifted_second w % 2 ^ 32 →
    second_of_low_word day low ≡ second_of_day w
second-lane w day low h e f =
    let parts = shifted_second-parts w h ∙ ap (λ (d : ℕ). d * 86_400 + second_of_day w) (sym e) in
    low_word-part day low (second_of_day w) (shifted_second w) parts f (second_of_day-bound w)

-- a second comes back from its bits as it was
pub second-back : (w : ℤ) → IsWallSecond w → to_z w64 (of_z w64 w) ≡ w
second-back w h = omega (arith, signed_arith)

pub second-bound : (w w' : ℤ) (day low : ℕ) → IsWallSecond w → w' ≡ w → day ≡ shifted_day (day_of_second w') → low ≡ shifted_second w' % 2 ^ 32 →
    second_of_low_word day low < 86_400
second-bound w w' day low h b e f =
    let day_is = e ∙ ap (λ (z : ℤ). shifted_day (day_of_second z)) b in
    let low_is = f ∙ ap (λ (z : ℤ). shifted_second z % 2 ^ 32) b in
    rw (second-lane w day low h day_is low_is) (second_of_day-bound w)

-- the day of the year that a lane has, and whether that year is a leap year

IsOrdinalLane-bit : (t : Bool) (ordinal : ℕ) → 1 ≤ ordinal → ordinal ≤ year_length t → IsOrdinalLane (cond t 1 0) ordinal
IsOrdinalLane-bit true ordinal l h = (omega arith, l, h)
IsOrdinalLane-bit false ordinal l h = (omega arith, l, h)

IsOrdinalLane-day : (n : ℤ) → IsDay n → IsOrdinalLane (cond (step_leap (shifted_day n)) 1 0) (step_ordinal (shifted_day n))
IsOrdinalLane-day n h =
    let found = IsOrdinalDateOfRange-found n h in
    let leap : is_leap_year (step_year (shifted_day n)) ≡ step_leap (shifted_day n) = ap is_leap_year (sym (year_of-step n h)) ∙ is_leap_year-step n h in
    IsOrdinalLane-bit (step_leap (shifted_day n)) (step_ordinal (shifted_day n)) found.1.0 (rw leap at found.1.1)

day-unshifted : (day : ℕ) → IsShiftedDay day → IsDay (pos day -ℤ pos 869_850_581)
day-unshifted day h = omega (arith, signed_arith)

shifted_day-unshifted : (day : ℕ) → shifted_day (pos day -ℤ pos 869_850_581) ≡ day
shifted_day-unshifted day = omega (arith, signed_arith)

pub IsOrdinalLane-step : (day : ℕ) → IsShiftedDay day → IsOrdinalLane (cond (step_leap day) 1 0) (step_ordinal day)
IsOrdinalLane-step day h =
    subst (λ (x : ℕ). IsOrdinalLane (cond (step_leap x) 1 0) (step_ordinal x)) (shifted_day-unshifted day)
    (IsOrdinalLane-day (pos day -ℤ pos 869_850_581) (day-unshifted day h))

pub bit-set : (t : Bool) → (cond {A = ℕ} t 1 0 == 1) ≡ t
bit-set true = refl
bit-set false = refl

-- the bits of a year, counted from the year 0
pub year-lane : (y : ℕ) → y < 2 ^ 31 → to_z w32 ((y + (2 ^ 32 - 2_379_600)) % 2 ^ 32) ≡ pos y -ℤ pos 2_379_600
year-lane y h = elim (cases_order y 2_379_600) [
  | inl e ↦ rw e refl
  | inr (inl lt) ↦ (
      let bits : (y + (2 ^ 32 - 2_379_600)) % 2 ^ 32 ≡ 2 ^ 32 - suc (2_379_599 - y) = omega arith in
      let year : negsuc (2_379_599 - y) ≡ pos y -ℤ pos 2_379_600 = omega (arith, ints) in
      rw bits (to_z-neg w32 (2_379_599 - y) (omega arith) ∙ year)
      )
  | inr (inr gt) ↦ (
      let bits : (y + (2 ^ 32 - 2_379_600)) % 2 ^ 32 ≡ y - 2_379_600 = omega arith in
      let year : pos (y - 2_379_600) ≡ pos y -ℤ pos 2_379_600 = omega (arith, ints) in
      rw bits (to_z_pos w32 (y - 2_379_600) (omega arith) ∙ year)
      )
]

-- four parts in one word
abbrev word : ℕ → ℕ → ℕ → ℕ → ℕ
word m d h i = (((m + d * 256 % 2 ^ 32) % 2 ^ 32 + h * 65_536 % 2 ^ 32) % 2 ^ 32 + i * 16_777_216 % 2 ^ 32) % 2 ^ 32

word-sum : (m d h i : ℕ) → m < 256 → d < 256 → h < 256 → i < 256 → word m d h i ≡ m + d * 256 + h * 65_536 + i * 16_777_216
word-sum m d h i a b e f = omega arith

word-parts : (m d h i : ℕ) → m < 256 → d < 256 → h < 256 → i < 256 →
    (word m d h i % 256 ≡ m) × (word m d h i / 256 % 256 ≡ d) × (word m d h i / 65_536 % 256 ≡ h) × (word m d h i / 16_777_216 % 256 ≡ i)
word-parts m d h i a b e f = rw (word-sum m d h i a b e f) (omega arith, omega arith, omega arith, omega arith)

same : {y y' o o' : ℤ} {m m' d d' h h' i i' s s' : ℕ} → y ≡ y' → m ≡ m' → d ≡ d' → h ≡ h' → i ≡ i' → s ≡ s' → o ≡ o' →
    ◌≡◌ {A = DateTime} (record { year = y; month = m; day = d; hour = h; minute = i; second = s; nanosecond = 0; offset_seconds = o })
    (record { year = y'; month = m'; day = d'; hour = h'; minute = i'; second = s'; nanosecond = 0; offset_seconds = o' })
same a b c d e f g = cc

-- the date-time of a lane, by the steps of the reciprocals
pub date_time-lane : (offset : ℤ) (d s : ℕ) → IsShiftedDay d → s < 86_400 →
    date_time_of_word ((years_of d + (2 ^ 32 - 2_379_600)) % 2 ^ 32)
    (word (month_of_ordinal (cond {A = ℕ} (step_leap d) 1 0 == 1) (step_ordinal d)) (day_of_ordinal (cond {A = ℕ} (step_leap d) 1 0 == 1) (step_ordinal d))
    (s / 60 / 60) (s / 60 % 60)) (s % 60) offset ≡ date_time_by_steps offset d s
date_time-lane offset d s h k =
    let is : cond {A = ℕ} (step_leap d) 1 0 == 1 ≡ step_leap d = bit-set (step_leap d) in
    let lane = IsOrdinalLane-step d h in
    let last : step_ordinal d ≤ year_length (step_leap d) = rw is at lane.2 in
    let date = IsMonthDay-of_ordinal (step_leap d) (step_ordinal d) lane.1 last in
    let month : month_of_ordinal (step_leap d) (step_ordinal d) < 256 = omega (arith, date.month_last) in
    let day : day_of_ordinal (step_leap d) (step_ordinal d) < 256 =
    omega (arith, date.day_last, days_in_month_bounds (step_leap d) (month_of_ordinal (step_leap d) (step_ordinal d))) in
    let parts = word-parts (month_of_ordinal (step_leap d) (step_ordinal d)) (day_of_ordinal (step_leap d) (step_ordinal d)) (s / 60 / 60) (s / 60 % 60)
    month day (omega arith) (omega arith) in
    rw is (same (year-lane (years_of d) (years_of-bound d h)) parts.0 parts.1 parts.2 parts.3 (omega arith) refl)

date_time-counted : (offset : ℤ) (w : ℤ) → IsWallSecond w → date_time_by_steps offset (shifted_day (day_of_second w)) (second_of_day w) ≡ date_time_of offset w
date_time-counted offset w h =
    let n = day_of_second w in
    let day = IsDay-day_of_second w h in
    let leap = is_leap_year-step n day in
    let ordinal = ordinal_of-step n day in
    same (sym (year_of-step n day)) (rw (leap, ordinal) refl) (rw (leap, ordinal) refl) refl refl refl refl

-- the steps find what counting finds
pub date_time_by_steps-second : (offset w w' : ℤ) (day low : ℕ) → IsWallSecond w → w' ≡ w → day ≡ shifted_day (day_of_second w') →
    low ≡ shifted_second w' % 2 ^ 32 → date_time_by_steps offset day (second_of_low_word day low) ≡ date_time_of offset w
date_time_by_steps-second offset w w' day low h b e f =
    let day_is = e ∙ ap (λ (z : ℤ). shifted_day (day_of_second z)) b in
    let low_is = f ∙ ap (λ (z : ℤ). shifted_second z % 2 ^ 32) b in
    rw (second-lane w day low h day_is low_is, day_is) (date_time-counted offset w h)

pub four-same : {a b c d e f g h : DateTime} → a ≡ e → b ≡ f → c ≡ g → d ≡ h → a ∷ b ∷ c ∷ d ∷ [] ≡ e ∷ f ∷ g ∷ h ∷ []
four-same p q r s = cc

-- four lanes, by each of them
pub date_times-four : (offset o' a b c d : ℤ) (day_a day_b day_c day_d low_a low_b low_c low_d : ℕ) (seconds : List ℕ) (result : List DateTime) → o' ≡ offset →
    date_time_by_steps offset day_a (second_of_low_word day_a low_a) ≡ date_time_of offset a →
    date_time_by_steps offset day_b (second_of_low_word day_b low_b) ≡ date_time_of offset b →
    date_time_by_steps offset day_c (second_of_low_word day_c low_c) ≡ date_time_of offset c →
    date_time_by_steps offset day_d (second_of_low_word day_d low_d) ≡ date_time_of offset d →
    seconds ≡ zip2 second_of_low_word (day_a ∷ day_b ∷ day_c ∷ day_d ∷ []) (low_a ∷ low_b ∷ low_c ∷ low_d ∷ []) →
    result ≡ zip2 (date_time_by_steps o') (day_a ∷ day_b ∷ day_c ∷ day_d ∷ []) seconds →
    result ≡ date_time_of offset a ∷ date_time_of offset b ∷ date_time_of offset c ∷ date_time_of offset d ∷ []
date_times-four offset o' a b c d day_a day_b day_c day_d low_a low_b low_c low_d seconds result eo ea eb ec ed es er =
    er ∙ rw (eo, es) (four-same ea eb ec ed)

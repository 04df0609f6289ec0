-- The first number that is out of its range: the tests of the ranges, from left to right.
use Rattle.std.proofs.Common.{◌≡◌, ℕ, ◌<◌, ◌≤◌, Bool, true, false, cond, nat_eq, nat_lt, refl, sym, ◌∙◌, arith, Result, Ok, Err, ℤ, to_z, of_z, w32}
use Rattle.std.specs.Prelude.{◌||◌, OkIff}
use Rattle.std.proofs.lemmas.Bool.{ltb-false}
use Rattle.std.proofs.lemmas.Bool.Decides.{nat_tests}
use Rattle.calendar_values.specs.Calendar.{is_leap_year, days_in_month}
use Rattle.calendar_values.specs.Clock.{AreTimeParts}
use Rattle.calendar_values.specs.Offsets.{IsOffset}
use Rattle.calendar_values.specs.Range.{IsYear}
use Rattle.calendar_values.specs.Refusals.{IsDateOfRange}
use Rattle.calendar_values.specs.SignedArith.{signed_arith, signed_casts}
use Rattle.offset_times.specs.Local.{Local}
use Rattle.rfc3339.specs.declared.refusal.Component.TheVariants.{Month, Day, Hour, Minute, Second, OffsetHour, OffsetMinute}
use Rattle.rfc3339.specs.declared.refusal.TextRefusal.{TextRefusal}
use Rattle.rfc3339.specs.declared.refusal.TextRefusal.TheVariants.{OutOfRange}
use Rattle.iso_texts.specs.IsoMeaning.{with_sign, year_of_parts, iso_value_of, AreInIsoRange, iso_meaning}
use Rattle.iso_texts.specs.declared.parts.IsoParts.{IsoParts}

within : (most n : ℕ) → 1 ≤ n → n ≤ most → (nat_eq n 0 || nat_lt most n) ≡ false
within most n low high = grind (arith, nat_tests)

without : (most n : ℕ) → ¬ ((1 ≤ n) × (n ≤ most)) → (nat_eq n 0 || nat_lt most n) ≡ true
without most n h = choose (nat_eq n 0) (nat_lt most n) refl refl where
  choose : (s t : Bool) → nat_eq n 0 ≡ s → nat_lt most n ≡ t → (nat_eq n 0 || nat_lt most n) ≡ true
  choose true t e f = rw e refl
  choose false true e f = rw (e, f) refl
  choose false false e f = absurd (h (grind (arith, nat_tests), grind (arith, nat_tests)))

at_most : (most n : ℕ) → n ≤ most → nat_lt most n ≡ false
at_most most n h = grind (arith, nat_tests)

above : (most n : ℕ) → most < n → nat_lt most n ≡ true
above most n h = grind (arith, nat_tests)

-- the date is one of the calendar
pub record IsDated (p : IsoParts) : Type 0 where
  pub month_first : 1 ≤ p.month
  pub month_last : p.month ≤ 12
  pub day_first : 1 ≤ p.day
  pub day_last : p.day ≤ days_in_month (is_leap_year (year_of_parts p)) p.month

-- and so is the time of day
pub record IsTimed (p : IsoParts) : Type 0 where
  pub hour : p.hour ≤ 23
  pub minute : p.minute ≤ 59
  pub second : p.second ≤ 59

-- a year of six digits is one of the range
pub IsYear-with_sign : (is_before : Bool) (year : ℕ) → year ≤ 999_999 → IsYear (with_sign is_before year)
IsYear-with_sign true year h = omega (arith, signed_arith)
IsYear-with_sign false year h = omega (arith, signed_arith)

-- a year and an offset come back from their bits as they were
pub back_year : (y : ℤ) → IsYear y → to_z w32 (of_z w32 y) ≡ y
back_year y range = omega (arith, signed_casts, range)

pub back_offset : (o : ℤ) → IsOffset o → to_z w32 (of_z w32 o) ≡ o
back_offset o range = omega (arith, signed_casts, range)

-- and so does a number with its sign
pub back_signed : (z : ℤ) (is_below : Bool) (number : ℕ) → z ≡ with_sign is_below number → number ≤ 999_999
    → to_z w32 (of_z w32 z) ≡ with_sign is_below number
back_signed z is_below number e low =
    let range = rw (← e) at (IsYear-with_sign is_below number low) in
    let back : to_z w32 (of_z w32 z) ≡ z = omega (arith, signed_casts, range) in back ∙ e

-- the seconds of an offset are those of one
pub IsOffset-with_sign : (is_west : Bool) (seconds : ℕ) → seconds ≤ 93_599 → IsOffset (with_sign is_west seconds)
IsOffset-with_sign true seconds h = omega (arith, signed_arith)
IsOffset-with_sign false seconds h = omega (arith, signed_arith)

pub ruleset signed_offsets = IsOffset-with_sign

pub IsDated-of : (p : IsoParts) (year : ℤ) (month : ℕ) → year ≡ year_of_parts p → month ≡ p.month → (1 ≤ p.month) × (p.month ≤ 12)
    → IsDateOfRange year month p.day → IsDated p
IsDated-of p year month e f m d =
    let day = rw (e, f) at d.1 in
    record { month_first = m.0; month_last = m.1; day_first = day.0; day_last = day.1 }

pub IsTimed-of : (p : IsoParts) → AreTimeParts p.hour p.minute p.second p.nanosecond → IsTimed p
IsTimed-of p h = omega arith

-- where nothing else is wrong with a time of day, the second is
pub second-over : (hour minute second nanosecond : ℕ) → ¬ AreTimeParts hour minute second nanosecond → hour ≤ 23 → minute ≤ 59 → nanosecond ≤ 999_999_999
    → 59 < second
second-over hour minute second nanosecond not a b d = choose (nat_lt 59 second) refl where
  choose : (t : Bool) → nat_lt 59 second ≡ t → 59 < second
  choose true t = grind (arith, nat_tests)
  choose false t = let low : second ≤ 59 = grind (arith, nat_tests) in let fits : AreTimeParts hour minute second nanosecond = omega arith in absurd (not fits)

pub meaning-month : (p : IsoParts) → ¬ ((1 ≤ p.month) × (p.month ≤ 12)) → Err (OutOfRange Month) ≡ iso_meaning p
unfolding iso_meaning
meaning-month p h = rw (without 12 p.month h) refl

-- a day that makes no date of the month, where the year is one of the range, is none of the month
no_day_of_month : (year : ℤ) (month day : ℕ) (y : ℤ) (m : ℕ) → y ≡ year → m ≡ month → IsYear year → ¬ IsDateOfRange y m day
    → ¬ ((1 ≤ day) × (day ≤ days_in_month (is_leap_year year) month))
no_day_of_month year month day y m e f low h =
    let other : ¬ IsDateOfRange year month day = rw (e, f) at h in λ d. other (low, d)

pub meaning-day : (p : IsoParts) (year : ℤ) (month : ℕ) → year ≡ year_of_parts p → month ≡ p.month → p.year ≤ 999_999 → (1 ≤ p.month) × (p.month ≤ 12)
    → ¬ IsDateOfRange year month p.day → Err (OutOfRange Day) ≡ iso_meaning p
unfolding iso_meaning
meaning-day p year month e f y m h =
    let day = no_day_of_month (year_of_parts p) p.month p.day year month e f (IsYear-with_sign p.is_before p.year y) h in
    rw (within 12 p.month m.0 m.1, without _ p.day day) refl

pub meaning-hour : (p : IsoParts) → IsDated p → 23 < p.hour → Err (OutOfRange Hour) ≡ iso_meaning p
unfolding iso_meaning
meaning-hour p d h = rw (within 12 p.month d.month_first d.month_last, within _ p.day d.day_first d.day_last, above 23 p.hour h) refl

pub meaning-minute : (p : IsoParts) → IsDated p → p.hour ≤ 23 → 59 < p.minute → Err (OutOfRange Minute) ≡ iso_meaning p
unfolding iso_meaning
meaning-minute p d a h =
    rw (within 12 p.month d.month_first d.month_last, within _ p.day d.day_first d.day_last, at_most 23 p.hour a, above 59 p.minute h) refl

pub meaning-second : (p : IsoParts) → IsDated p → p.hour ≤ 23 → p.minute ≤ 59 → 59 < p.second → Err (OutOfRange Second) ≡ iso_meaning p
unfolding iso_meaning
meaning-second p d a b h =
    rw (
      within 12 p.month d.month_first d.month_last,
      within _ p.day d.day_first d.day_last,
      at_most 23 p.hour a,
      at_most 59 p.minute b,
      above 59 p.second h,
    ) refl

pub meaning-offset_hour : (p : IsoParts) → IsDated p → IsTimed p → 25 < p.offset_hour → Err (OutOfRange OffsetHour) ≡ iso_meaning p
unfolding iso_meaning
meaning-offset_hour p d t h =
    rw (
      within 12 p.month d.month_first d.month_last,
      within _ p.day d.day_first d.day_last,
      at_most 23 p.hour t.hour,
      at_most 59 p.minute t.minute,
      at_most 59 p.second t.second,
      above 25 p.offset_hour h,
    ) refl

pub meaning-offset_minute : (p : IsoParts) → IsDated p → IsTimed p → p.offset_hour ≤ 25 → 59 < p.offset_minute
    → Err (OutOfRange OffsetMinute) ≡ iso_meaning p
unfolding iso_meaning
meaning-offset_minute p d t a h =
    rw (
      within 12 p.month d.month_first d.month_last,
      within _ p.day d.day_first d.day_last,
      at_most 23 p.hour t.hour,
      at_most 59 p.minute t.minute,
      at_most 59 p.second t.second,
      at_most 25 p.offset_hour a,
      above 59 p.offset_minute h,
    ) refl

-- ---- the value, exactly where all are in their ranges

pub meaning-in_range : (p : IsoParts) → AreInIsoRange p → iso_meaning p ≡ Ok (iso_value_of p)
unfolding iso_meaning
meaning-in_range p h =
    rw (
      within 12 p.month h.month_first h.month_last,
      within _ p.day h.day_first h.day_last,
      at_most 23 p.hour h.hour,
      at_most 59 p.minute h.minute,
      at_most 59 p.second h.second,
      at_most 25 p.offset_hour h.offset_hour,
      at_most 59 p.offset_minute h.offset_minute,
    ) refl

guard : (b : Bool) (d : TextRefusal) (r : Result Local TextRefusal) (x : Local) → cond b (Err d) r ≡ Ok x → (b ≡ false) × (r ≡ Ok x)
guard true d r x e = absurd cc
guard false d r x e = (refl, e)

pub ok_is : (x y : Local) → ◌≡◌ {A = Result Local TextRefusal} (Ok x) (Ok y) → y ≡ x
ok_is x y e = cc

meaning-ok : (p : IsoParts) (at : Local) → iso_meaning p ≡ Ok at → AreInIsoRange p × (at ≡ iso_value_of p)
unfolding iso_meaning
meaning-ok p at e =
    let month = guard (nat_eq p.month 0 || nat_lt 12 p.month) _ _ _ e in
    let day = guard (nat_eq p.day 0 || nat_lt (days_in_month (is_leap_year (year_of_parts p)) p.month) p.day) _ _ _ month.1 in
    let hour = guard (nat_lt 23 p.hour) _ _ _ day.1 in
    let minute = guard (nat_lt 59 p.minute) _ _ _ hour.1 in
    let second = guard (nat_lt 59 p.second) _ _ _ minute.1 in
    let offset_hour = guard (nat_lt 25 p.offset_hour) _ _ _ second.1 in
    let offset_minute = guard (nat_lt 59 p.offset_minute) _ _ _ offset_hour.1 in
    let months : (1 ≤ p.month) × (p.month ≤ 12) = grind (arith, nat_tests, month.0) in
    let days : (1 ≤ p.day) × (p.day ≤ days_in_month (is_leap_year (year_of_parts p)) p.month) = grind (arith, nat_tests, day.0) in
    (omega (arith, ltb-false, hour.0, minute.0, second.0, offset_hour.0, offset_minute.0), ok_is _ at offset_minute.1)

pub accepted_of : (p : IsoParts) (r : Result Local TextRefusal) → r ≡ iso_meaning p → OkIff r (AreInIsoRange p) (iso_value_of p)
accepted_of p (Ok at) e = let ok = meaning-ok p at (sym e) in (ok.0, ok.1)
accepted_of p (Err d) e = λ h. let bad = e ∙ meaning-in_range p h in absurd cc

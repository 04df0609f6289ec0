-- A written text has the form, and means its value.
use Rattle.std.proofs.Common.{◌≡◌, inl, inr, ℕ, ◌/◌, ◌%◌, ◌≤◌, ◌<◌, Bool, true, false, nat_eq, ◌++◌, length}
use Rattle.std.proofs.Common.{length-append, refl, sym, ap, subst, ◌∙◌, arith, ℤ, pos, unsigned_abs, ◌≤ℤ◌, Ok}
use Rattle.std.specs.Prelude.{codes, int_lt}
use Rattle.std.proofs.lemmas.Bool.{eqb-true, cases_Bool}
use Rattle.calendar_values.specs.SignedArith.{signed_arith, one_part}
use Rattle.calendar_values.specs.Calendar.{is_leap_year, days_in_month, year_of, month_of, day_of_month_of}
use Rattle.calendar_values.specs.ClockLemmas.{clock_of_parts-of, AreTimeParts-of}
use Rattle.calendar_values.specs.CalendarDateLemmas.{IsCalendarDate-of, day_of_calendar_date-of, days_in_month_bounds}
use Rattle.calendar_values.specs.WallClock.{wall_day, wall_time}
use Rattle.calendar_values.specs.WallClockLemmas.{wall_clock-parts, IsClock-wall_time}
use Rattle.offset_times.specs.Local.{Local, local_in_utc}
use Rattle.calendar_values.specs.Clock.{nanosecond_of}
use Rattle.calendar_values.specs.Digits.{last_digits, fraction_digits}
use Rattle.calendar_values.specs.DigitCountLemmas.{length-last_digits}
use Rattle.rfc3339.specs.declared.parts.Parts.{Parts}
use Rattle.rfc3339.specs.Form.{IsFraction, IsOffsetText, IsDateTime}
use Rattle.rfc3339.specs.Meaning.{AreInRange, offset_of, value_of, meaning}
use Rattle.stamp_times.specs.Texts.{fraction_text}
use Rattle.rfc3339.specs.Texts.{HasText, HasFixedText, parts_of, time_offset_text, rfc3339_text, fixed_text}
use Rattle.rfc3339.specs.MeaningLemmas.{meaning-in_range, ok_is}
use Rattle.rfc3339.specs.TextLemmas.{one_reading}
use Rattle.rfc3339.specs.WrittenDigitLemmas.{last_digits-are, fraction_digits-are, fraction_digits-some, fraction_value-nine, fraction_value-nanosecond}

-- ---- a fraction

pub IsFraction-text : (n : ℕ) → n < 1_000_000_000 → IsFraction (fraction_text n) n
unfolding fraction_text
IsFraction-text n low =
    elim (cases_Bool (nat_eq n 0)) [
      | inl t ↦ inl (rw t refl, eqb-true n 0 t)
      | inr t ↦ inr (fraction_digits 9 n, rw t refl, fraction_digits-some 8 n, fraction_digits-are 9 n, sym (fraction_value-nanosecond n low))
    ]

-- ---- an offset

pub IsOffsetText-text : (o : ℤ) → IsOffsetText (time_offset_text o) (int_lt o (pos 0)) (unsigned_abs o / 3_600) (unsigned_abs o / 60 % 60)
unfolding time_offset_text
IsOffsetText-text o =
    elim (cases_Bool (nat_eq (unsigned_abs o) 0)) [
      | inl t ↦
          let none = eqb-true (unsigned_abs o) 0 t in
          let zero : o ≡ pos 0 = omega (arith, signed_arith) in rw zero (inl (inl refl, refl, refl, refl))
      | inr t ↦ inr (rw t refl)
    ]

offset_of-parts : (o : ℤ) (b : Bool) → int_lt o (pos 0) ≡ b → unsigned_abs o % 60 ≡ 0
    → offset_of b (unsigned_abs o / 3_600) (unsigned_abs o / 60 % 60) ≡ o
offset_of-parts o true t e = omega (arith, signed_arith, one_part o)
offset_of-parts o false t e = omega (arith, signed_arith, one_part o)

-- ---- a whole text

pub year_is : (y : ℤ) → pos 0 ≤ℤ y → pos (unsigned_abs y) ≡ y
year_is y h = omega (arith, signed_arith, one_part y)

pub value_of-parts : (at : Local) → HasText at → value_of (parts_of at) ≡ at
value_of-parts at h =
    let year = year_is (year_of (wall_day at.wall)) h.year_first in
    let offset = offset_of-parts at.offset _ refl h.whole_minutes in
    rw (year, day_of_calendar_date-of (wall_day at.wall), clock_of_parts-of (wall_time at.wall), offset, wall_clock-parts at.wall) refl

pub parts-in_range : (at : Local) → HasText at → AreInRange (parts_of at)
parts-in_range at h =
    let day = wall_day at.wall in
    let date = IsCalendarDate-of day in
    let time = AreTimeParts-of (wall_time at.wall) (IsClock-wall_time at.wall) in
    let year = year_is (year_of day) h.year_first in
    let last = subst (λ (y : ℤ). day_of_month_of day ≤ days_in_month (is_leap_year y) (month_of day)) (sym year) date.day_last in
    omega arith

pub parts-year : (at : Local) → HasText at → (parts_of at).year ≤ 9_999
parts-year at h = omega (arith, signed_arith, h.year_first, h.year_last)

pub parts-nanosecond : (at : Local) → (parts_of at).nanosecond ≤ 999_999_999
parts-nanosecond at = omega arith

-- a written text means its value
pub meaning-text : (at : Local) → HasText at → meaning (parts_of at) ≡ Ok at
meaning-text at h = meaning-in_range (parts_of at) (parts-in_range at h) ∙ ap Ok (value_of-parts at h)

-- and has the form
pub IsDateTime-text : (at : Local) → HasText at → IsDateTime (rfc3339_text at) (parts_of at)
unfolding rfc3339_text
IsDateTime-text at h =
    let day = wall_day at.wall in
    let clock = wall_time at.wall in
    let r = parts-in_range at h in
    let year = year_is (year_of day) h.year_first in
    let month_days = days_in_month_bounds (is_leap_year (pos (unsigned_abs (year_of day)))) (month_of day) in
    record {
      separator = 84;
      fraction = fraction_text (nanosecond_of clock);
      offset = time_offset_text at.offset;
      spelled = refl;
      is_separator = refl;
      is_fraction = IsFraction-text (nanosecond_of clock) (omega arith);
      is_offset = IsOffsetText-text at.offset;
      fits = omega (arith, signed_arith);
    }

-- a text of fixed width has the form, too
HasText-fixed : (i : ℤ) → HasFixedText i → HasText (local_in_utc i)
HasText-fixed i h = record { year_first = h.year_first; year_last = h.year_last; whole_minutes = refl; below_a_day = omega arith }

pub IsDateTime-fixed : (i : ℤ) → HasFixedText i → IsDateTime (fixed_text i) (parts_of (local_in_utc i))
unfolding fixed_text
IsDateTime-fixed i h =
    let n = nanosecond_of (wall_time i) in
    record {
      separator = 84;
      fraction = codes "." ++ last_digits 9 n;
      offset = codes "Z";
      spelled = refl;
      is_separator = refl;
      is_fraction = inr (last_digits 9 n, refl, omega (arith, length-last_digits 9 n), last_digits-are 9 n, sym (fraction_value-nine n (omega arith)));
      is_offset = inl (inl refl, refl, refl, refl);
      fits = (IsDateTime-text (local_in_utc i) (HasText-fixed i h)).fits;
    }

pub meaning-fixed : (i : ℤ) → HasFixedText i → meaning (parts_of (local_in_utc i)) ≡ Ok (local_in_utc i)
meaning-fixed i h = meaning-text (local_in_utc i) (HasText-fixed i h)

-- ---- laws

pub read_back : (at : Local) → HasText at → (p : Parts) × IsDateTime (rfc3339_text at) p × (meaning p ≡ Ok at)
read_back at h = (parts_of at, IsDateTime-text at h, meaning-text at h)

pub one_value : (a b : Local) → HasText a → HasText b → rfc3339_text a ≡ rfc3339_text b → a ≡ b
one_value a b h k e =
    let same = one_reading (rfc3339_text a) (parts_of a) (parts_of b) (IsDateTime-text a h) (rw e (IsDateTime-text b k)) in
    sym (ok_is a b (sym (meaning-text a h) ∙ ap meaning same ∙ meaning-text b k))

pub length-fixed_text : (i : ℤ) → HasFixedText i → length (fixed_text i) ≡ 30
unfolding fixed_text
length-fixed_text i h = simp (length-append, length-last_digits) refl

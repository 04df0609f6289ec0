-- A written text is derived, and means its value.
use Rattle.std.proofs.Common.{◌≡◌, inl, inr, ◌+◌, ◌*◌, ◌/◌, ◌%◌, ◌≤◌, Bool, true, false, nat_eq, append-nil, append_assoc, refl, sym, ap, subst}
use Rattle.std.proofs.Common.{◌∙◌, arith, ℤ, pos, ◌≤ℤ◌, unsigned_abs, Ok}
use Rattle.std.specs.Prelude.{int_lt}
use Rattle.std.proofs.lemmas.Bool.Decides.{nat_tests}
use Rattle.std.proofs.lemmas.Bool.{eqb-true, cases_Bool}
use Rattle.calendar_values.specs.Calendar.{is_leap_year, days_in_month, year_of, month_of, day_of_month_of}
use Rattle.calendar_values.specs.CalendarDateLemmas.{IsCalendarDate-of, day_of_calendar_date-of, days_in_month_bounds}
use Rattle.calendar_values.specs.Clock.{nanosecond_of}
use Rattle.calendar_values.specs.ClockLemmas.{clock_of_parts-of, AreTimeParts-of}
use Rattle.calendar_values.specs.DayLemmas.{IsYear-year_of}
use Rattle.calendar_values.specs.Range.{IsYear}
use Rattle.calendar_values.specs.SignedArith.{signed_arith, one_part}
use Rattle.calendar_values.specs.WallClock.{wall_day, wall_time}
use Rattle.calendar_values.specs.WallClockLemmas.{wall_clock-parts, IsClock-wall_time, IsDay-wall_day}
use Rattle.offset_times.specs.Local.{Local, IsLocal}
use Rattle.rfc3339.specs.Texts.{HasText, time_offset_text, rfc3339_text}
use Rattle.rfc3339.specs.ValueLemmas.{IsFraction-text, IsOffsetText-text}
use Rattle.stamp_times.specs.Texts.{fraction_text}
use Rattle.iso_texts.specs.IsoForms.{IsYearText, of_four, of_six, IsIsoOffsetText, to_minute, to_second, IsIsoDateTime}
use Rattle.iso_texts.specs.IsoMeaning.{with_sign, iso_offset_of, iso_value_of, AreInIsoRange, iso_meaning}
use Rattle.iso_texts.specs.IsoReading.{iso_reading_of}
use Rattle.iso_texts.specs.IsoTexts.{has_long_year, iso_year_text, iso_offset_text, iso_parts_of, iso_text}
use Rattle.iso_texts.specs.declared.parts.IsoParts.{IsoParts}
use Rattle.iso_texts.proofs.IsoFormLemmas.{iso_reading_of-spelled}
use Rattle.iso_texts.proofs.IsoRangeLemmas.{meaning-in_range, ok_is}

-- ---- a year

IsYearText-by : (y : ℤ) (long below : Bool) → has_long_year y ≡ long → int_lt y (pos 0) ≡ below → IsYear y
    → IsYearText (iso_year_text y) below (unsigned_abs y)
unfolding iso_year_text
IsYearText-by y true below e b range = of_six (omega (arith, signed_arith, range, one_part y)) (rw (e, b) refl)
IsYearText-by y false true e b range = let no = rw b at e in absurd cc
IsYearText-by y false false e b range =
    let high = rw b at e in
    of_four (omega (arith, signed_arith, high, one_part y)) refl (rw e refl)

pub IsYearText-text : (y : ℤ) → IsYear y → IsYearText (iso_year_text y) (int_lt y (pos 0)) (unsigned_abs y)
IsYearText-text y range = IsYearText-by y (has_long_year y) (int_lt y (pos 0)) refl refl range

-- ---- an offset

offset_of_minutes : (o : ℤ) → unsigned_abs o % 60 ≡ 0 → iso_offset_text o ≡ time_offset_text o
unfolding iso_offset_text time_offset_text
offset_of_minutes o e = rw e (elim (cases_Bool (nat_eq (unsigned_abs o) 0)) [
  | inl t ↦ rw t refl
  | inr t ↦ rw t (append-nil _)
])

offset_of_seconds : (o : ℤ) → nat_eq (unsigned_abs o % 60) 0 ≡ false
    → IsIsoOffsetText (iso_offset_text o) (int_lt o (pos 0)) (unsigned_abs o / 3_600) (unsigned_abs o / 60 % 60) (unsigned_abs o % 60)
unfolding iso_offset_text
offset_of_seconds o t =
    let some : nat_eq (unsigned_abs o) 0 ≡ false = grind (arith, nat_tests) in
    to_second (rw (some, t) refl) (omega arith)

pub IsIsoOffsetText-text : (o : ℤ)
    → IsIsoOffsetText (iso_offset_text o) (int_lt o (pos 0)) (unsigned_abs o / 3_600) (unsigned_abs o / 60 % 60) (unsigned_abs o % 60)
IsIsoOffsetText-text o = elim (cases_Bool (nat_eq (unsigned_abs o % 60) 0)) [
  | inl t ↦
      let none = eqb-true (unsigned_abs o % 60) 0 t in
      to_minute (rw (offset_of_minutes o none) (IsOffsetText-text o)) none
  | inr t ↦ offset_of_seconds o t
]

-- ---- a whole text

signed-parts : (z : ℤ) (b : Bool) → int_lt z (pos 0) ≡ b → with_sign b (unsigned_abs z) ≡ z
signed-parts z true t = omega (arith, signed_arith, one_part z)
signed-parts z false t = omega (arith, signed_arith, one_part z)

offset-parts : (o : ℤ) → iso_offset_of (int_lt o (pos 0)) (unsigned_abs o / 3_600) (unsigned_abs o / 60 % 60) (unsigned_abs o % 60) ≡ o
offset-parts o =
    let n = unsigned_abs o in
    let whole : n / 3_600 * 3_600 + n / 60 % 60 * 60 + n % 60 ≡ n = omega arith in
    ap (with_sign (int_lt o (pos 0))) whole ∙ signed-parts o (int_lt o (pos 0)) refl

iso_value_of-parts : (at : Local) → iso_value_of (iso_parts_of at) ≡ at
iso_value_of-parts at =
    let year = signed-parts (year_of (wall_day at.wall)) _ refl in
    rw (year, day_of_calendar_date-of (wall_day at.wall), clock_of_parts-of (wall_time at.wall), offset-parts at.offset, wall_clock-parts at.wall) refl

parts-in_range : (at : Local) → IsLocal at → AreInIsoRange (iso_parts_of at)
parts-in_range at h =
    let day = wall_day at.wall in
    let date = IsCalendarDate-of day in
    let time = AreTimeParts-of (wall_time at.wall) (IsClock-wall_time at.wall) in
    let year = signed-parts (year_of day) _ refl in
    let last = subst (λ (y : ℤ). day_of_month_of day ≤ days_in_month (is_leap_year y) (month_of day)) (sym year) date.day_last in
    let size : unsigned_abs at.offset ≤ 93_599 = omega (arith, signed_arith, h.1, one_part at.offset) in
    record {
      month_first = date.month_first;
      month_last = date.month_last;
      day_first = date.day_first;
      day_last = last;
      hour = time.hour;
      minute = time.minute;
      second = time.second;
      offset_hour = omega arith;
      offset_minute = omega arith;
    }

pub iso_meaning-text : (at : Local) → IsLocal at → iso_meaning (iso_parts_of at) ≡ Ok at
iso_meaning-text at h = meaning-in_range (iso_parts_of at) (parts-in_range at h) ∙ ap Ok (iso_value_of-parts at)

pub IsIsoDateTime-text : (at : Local) → IsLocal at → IsIsoDateTime (iso_text at) (iso_parts_of at)
unfolding iso_text
IsIsoDateTime-text at h =
    let day = wall_day at.wall in
    let clock = wall_time at.wall in
    let r = parts-in_range at h in
    let year = signed-parts (year_of day) _ refl in
    let month_days = days_in_month_bounds (is_leap_year (with_sign (int_lt (year_of day) (pos 0)) (unsigned_abs (year_of day)))) (month_of day) in
    record {
      year = iso_year_text (year_of day);
      separator = 84;
      fraction = fraction_text (nanosecond_of clock);
      offset = iso_offset_text at.offset;
      spelled = refl;
      is_year = IsYearText-text (year_of day) (IsYear-year_of day (IsDay-wall_day at.wall h.0));
      is_separator = refl;
      is_fraction = IsFraction-text (nanosecond_of clock) (omega arith);
      is_offset = IsIsoOffsetText-text at.offset;
      fits = omega (arith, r.month_last, r.day_last, month_days, r.hour, r.minute, r.second, r.offset_hour, r.offset_minute);
    }

-- ---- laws

pub iso_reading_of-written : (at : Local) → IsLocal at → iso_reading_of (iso_text at) ≡ Ok at
iso_reading_of-written at h =
    iso_reading_of-spelled (iso_text at) (iso_parts_of at) (IsIsoDateTime-text at h) ∙ iso_meaning-text at h

pub reads_back : (at : Local) → IsLocal at → ((p : IsoParts) × IsIsoDateTime (iso_text at) p × (iso_meaning p ≡ Ok at))
    × (iso_reading_of (iso_text at) ≡ Ok at)
reads_back at h = ((iso_parts_of at, IsIsoDateTime-text at h, iso_meaning-text at h), iso_reading_of-written at h)

pub one_date_time : (a b : Local) → IsLocal a → IsLocal b → iso_text a ≡ iso_text b → a ≡ b
one_date_time a b h k e = sym (ok_is a b (sym (iso_reading_of-written a h) ∙ ap iso_reading_of e ∙ iso_reading_of-written b k))

not_below : (y : ℤ) → pos 0 ≤ℤ y → int_lt y (pos 0) ≡ false
not_below y h = elim (cases_Bool (int_lt y (pos 0))) [
  | inl t ↦ absurd (omega (arith, signed_arith, h, t))
  | inr t ↦ t
]

not_above : (y : ℤ) → y ≤ℤ pos 9_999 → int_lt (pos 9_999) y ≡ false
not_above y h = elim (cases_Bool (int_lt (pos 9_999) y)) [
  | inl t ↦ absurd (omega (arith, signed_arith, h, t))
  | inr t ↦ t
]

short_year : (y : ℤ) → int_lt y (pos 0) ≡ false → int_lt (pos 9_999) y ≡ false → has_long_year y ≡ false
short_year y low high = rw (low, high) refl

pub text_of_rfc3339 : (at : Local) → HasText at → iso_text at ≡ rfc3339_text at
unfolding iso_text rfc3339_text iso_year_text
text_of_rfc3339 at h =
    let y = year_of (wall_day at.wall) in
    let low : int_lt y (pos 0) ≡ false = not_below y h.year_first in
    let high : int_lt (pos 9_999) y ≡ false = not_above y h.year_last in
    rw (short_year y low high, offset_of_minutes at.offset h.whole_minutes) (simp append_assoc refl)

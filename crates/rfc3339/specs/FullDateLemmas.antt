-- Days as texts: a text that is read has the form, a text with the form is read, and a written text means its day.
use Rattle.std.proofs.Common.{◌≡◌, ℕ, ◌≤◌, List, [], ◌∷◌, append_assoc, append-nil, Option, Some, None, refl, ap, ◌∙◌, subst, inl, inr, arith}
use Rattle.std.proofs.Common.{ℤ, unsigned_abs, ◌==◌, ◌||◌, nat_lt, Ok, Err}
use Rattle.std.specs.Prelude.{false, ◌⊎◌}
use Rattle.std.proofs.lemmas.Bool.Decides.{nat_tests}
use Rattle.std.proofs.lemmas.Option.{same_Some}
use Rattle.calendar_values.specs.Calendar.{is_leap_year, year_of, month_of, day_of_month_of}
use Rattle.calendar_values.specs.CalendarDateLemmas.{IsCalendarDate-of, day_of_calendar_date-of, days_in_month_bounds}
use Rattle.calendar_values.specs.Digits.{last_digits}
use Rattle.calendar_values.specs.SignedArith.{signed_arith, one_part}
use Rattle.rfc3339.specs.FullDates.{IsFullDate, HasFullDate, full_date_at, full_date_text, full_date_meaning}
use Rattle.rfc3339.specs.FullDates.{full_date_meaning_if_any, full_date_reading_of}
use Rattle.rfc3339.specs.Reading.{with_no_rest}
use Rattle.rfc3339.specs.FormLemmas.{Takes, bind_some, part_takes, part_again, year_takes, year_again}
use Rattle.rfc3339.specs.ValueLemmas.{year_is}
use Rattle.rfc3339.specs.declared.refusal.TextRefusal.TheVariants.{Syntax}

-- the pieces of a text, one after another
full_date_of : {text first second : List ℕ} (year month day : ℕ) → Takes text (last_digits 4 year) first year 10_000
    → Takes first (45 ∷ last_digits 2 month) second month 100 → Takes second (45 ∷ last_digits 2 day) [] day 100 → IsFullDate text year month day
full_date_of year month day y m d = record {
  spelled = rw (y.parts, m.parts, d.parts) (simp (append_assoc, append-nil) refl);
  year_fits = y.fits;
  month_fits = m.fits;
  day_fits = d.fits;
}

ended_there : {A : Type 0} (x y : A) (bytes : List ℕ) → with_no_rest x bytes ≡ Some y → (bytes ≡ []) × (x ≡ y)
ended_there x y [] e = (refl, same_Some x y e)
ended_there x y (first ∷ bytes) e = absurd cc

pub full_date_takes : (text : List ℕ) (read : ℕ × ℕ × ℕ) → full_date_at text ≡ Some read → IsFullDate text read.0 read.1 read.2
unfolding full_date_at
full_date_takes text read e =
    let year = bind_some _ _ _ e in
    let month = bind_some _ _ _ year.2 in
    let day = bind_some _ _ _ month.2 in
    let end = ended_there _ read day.0.1 day.2 in
    let last = subst (λ (rest : List ℕ). Takes month.0.1 (45 ∷ last_digits 2 day.0.0) rest day.0.0 100) end.0 (part_takes 45 _ _ _ day.1) in
    subst (λ (q : ℕ × ℕ × ℕ). IsFullDate text q.0 q.1 q.2) end.1
    (full_date_of year.0.0 month.0.0 day.0.0 (year_takes _ _ _ year.1) (part_takes 45 _ _ _ month.1) last)

pub full_date_again : (text : List ℕ) (year month day : ℕ) → IsFullDate text year month day → full_date_at text ≡ Some (year, month, day)
unfolding full_date_at
full_date_again text year month day h =
    rw (h.spelled, ← append-nil (last_digits 2 day)) (simp append_assoc
    (rw (year_again year _ h.year_fits, part_again 45 month _ h.month_fits, part_again 45 day [] h.day_fits) refl))

-- a written text has the form
pub IsFullDate-text : (n : ℤ) → HasFullDate n → IsFullDate (full_date_text n) (unsigned_abs (year_of n)) (month_of n) (day_of_month_of n)
unfolding full_date_text
IsFullDate-text n h =
    let date = IsCalendarDate-of n in
    let bounds = days_in_month_bounds (is_leap_year (year_of n)) (month_of n) in
    record {
      spelled = refl;
      year_fits = omega (arith, signed_arith, one_part (year_of n), h.year_first, h.year_last);
      month_fits = omega (arith, date.month_last);
      day_fits = omega (arith, date.day_last, bounds.1);
    }

in_range : (month day last : ℕ) → 1 ≤ month → month ≤ 12 → 1 ≤ day → day ≤ last →
    ((month == 0 || nat_lt 12 month) ≡ false) × ((day == 0 || nat_lt last day) ≡ false)
in_range month day last m n d e = (grind (arith, nat_tests), grind (arith, nat_tests))

-- and means its day
pub full_date_meaning-text : (n : ℤ) → HasFullDate n → full_date_meaning (unsigned_abs (year_of n)) (month_of n) (day_of_month_of n) ≡ Ok n
full_date_meaning-text n h =
    let date = IsCalendarDate-of n in
    let tests = in_range (month_of n) (day_of_month_of n) _ date.month_first date.month_last date.day_first date.day_last in
    rw (year_is (year_of n) h.year_first, tests.0, tests.1, day_of_calendar_date-of n) refl

-- the reading of a text that spells numbers is their meaning
pub full_date_reading_of-spelled : (text : List ℕ) (year month day : ℕ) → IsFullDate text year month day
    → full_date_reading_of text ≡ full_date_meaning year month day
unfolding full_date_reading_of
full_date_reading_of-spelled text year month day h = ap full_date_meaning_if_any (full_date_again text year month day h)

-- the reading of any other text is a syntax error
syntax_of : (text : List ℕ) (o : Option (ℕ × ℕ × ℕ)) → full_date_at text ≡ o
    → (full_date_reading_of text ≡ Err Syntax) ⊎ ((year : ℕ) × (month : ℕ) × (day : ℕ) × IsFullDate text year month day)
unfolding full_date_reading_of
syntax_of text None e = inl (ap full_date_meaning_if_any e)
syntax_of text (Some read) e = inr (read.0, read.1, read.2, full_date_takes text read e)

pub full_date_reading_of-syntax : (text : List ℕ)
    → (full_date_reading_of text ≡ Err Syntax) ⊎ ((year : ℕ) × (month : ℕ) × (day : ℕ) × IsFullDate text year month day)
full_date_reading_of-syntax text = syntax_of text (full_date_at text) refl

-- a written text is read back
pub full_date_reading_of-written : (n : ℤ) → HasFullDate n → full_date_reading_of (full_date_text n) ≡ Ok n
full_date_reading_of-written n h =
    full_date_reading_of-spelled (full_date_text n) (unsigned_abs (year_of n)) (month_of n) (day_of_month_of n) (IsFullDate-text n h)
    ∙ full_date_meaning-text n h

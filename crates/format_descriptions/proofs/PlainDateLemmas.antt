-- A date of a year, a month and a day alone: no other part contradicts it.
use Rattle.std.proofs.Common.{◌≡◌, ℕ, ◌==◌, ◌||◌, ◌∙◌, Bool, true, false, refl, sym, ap, arith, ℤ, Option, Some, None, Result, Ok, Err, inl, inr}
use Rattle.std.specs.Prelude.{IfSome, is_some, nat_lt, if◌then◌else◌}
use Rattle.std.proofs.lemmas.Bool.{cases_Bool}
use Rattle.std.proofs.lemmas.Bool.Decides.{nat_tests}
use Rattle.calendar_values.specs.Calendar.{IsCalendarDate, is_leap_year, days_in_month, day_of_calendar_date}
use Rattle.calendar_values.specs.CalendarDateLemmas.{year_of-calendar_date, month_of-calendar_date, day_of_month_of-calendar_date}
use Rattle.calendar_values.specs.Range.{first_year, last_year, is_outside}
use Rattle.format_descriptions.proofs.DateLemmas.{day_with-only}
use Rattle.format_descriptions.specs.Values.{HasDateParts, month_day, day_in_year, day_by_year, day_with, calendar_year, date_of_parts}
use Rattle.format_descriptions.specs.declared.parts.Parts.{Parts}
use Rattle.format_descriptions.specs.declared.value_refusal.Field.TheVariants.{Year, Month, Day}
use Rattle.format_descriptions.specs.declared.value_refusal.ValueRefusal.{ValueRefusal}
use Rattle.format_descriptions.specs.declared.value_refusal.ValueRefusal.TheVariants.{Wrong}

-- the day of a year, a month and a day, whatever the other parts
abbrev pub calendar_day : ℤ → ℕ → ℕ → Result ℤ ValueRefusal
calendar_day y m d =
    if m == 0 || nat_lt 12 m then Err (Wrong Month)
    else (if d == 0 || nat_lt (days_in_month (is_leap_year y) m) d then Err (Wrong Day) else Ok (day_of_calendar_date y m d))

-- the day of a month, if there is that day, and if no part contradicts it
pub month_day-ok : (p : Parts) (y : ℤ) (m d : ℕ) (day : ℤ) → Ok day ≡ calendar_day y m d → day_with p day ≡ month_day p y m d
unfolding month_day
month_day-ok p y m d day is = elim (cases_Bool (m == 0 || nat_lt 12 m)) [
  | inl t ↦ let e = rw t at is in absurd cc
  | inr f ↦ elim (cases_Bool (d == 0 || nat_lt (days_in_month (is_leap_year y) m) d)) [
    | inl t ↦ let e = rw (f, t) at is in absurd cc
    | inr g ↦ let same : day ≡ day_of_calendar_date y m d = let e = rw (f, g) at is in cc in rw (f, g, same) refl
  ]
]

pub month_day-err : (p : Parts) (y : ℤ) (m d : ℕ) (refusal : ValueRefusal) → Err refusal ≡ calendar_day y m d → Err refusal ≡ month_day p y m d
unfolding month_day
month_day-err p y m d refusal is = elim (cases_Bool (m == 0 || nat_lt 12 m)) [
  | inl t ↦ rw t (rw t at is)
  | inr f ↦ elim (cases_Bool (d == 0 || nat_lt (days_in_month (is_leap_year y) m) d)) [
    | inl t ↦ rw (f, t) (rw (f, t) at is)
    | inr g ↦ let e = rw (f, g) at is in absurd cc
  ]
]

pub ruleset month_days = (month_day-ok, month_day-err)

-- a part of a date is known other than the year, the month and the day
abbrev has_other_parts : Parts → Bool
has_other_parts p =
    (((((((((((is_some p.ordinal || is_some p.weekday) || is_some p.iso_week) || is_some p.sunday_week) || is_some p.monday_week)
    || is_some p.year_century) || is_some p.is_before_zero) || is_some p.year_last_two) || is_some p.iso_year) || is_some p.iso_year_century)
    || is_some p.is_iso_before_zero) || is_some p.iso_year_last_two)

-- a part that is not known contradicts nothing
if_none : {A : Type 0} (o : Option A) (P : A → Type 0) → is_some o ≡ false → IfSome o P
if_none None P h = tt
if_none (Some x) P h = absurd cc

neither : (a b : Bool) → (a || b) ≡ false → (a ≡ false) × (b ≡ false)
neither false b h = (refl, h)
neither true b h = absurd cc

has_parts : (p : Parts) (y : ℤ) (m d : ℕ) → p.year ≡ Some y → p.month ≡ Some m → p.day ≡ Some d → has_other_parts p ≡ false → IsCalendarDate y m d
    → HasDateParts p (day_of_calendar_date y m d)
has_parts p y m d year month day alone date =
    let iso_last = neither _ _ alone in
    let iso_sign = neither _ _ iso_last.0 in
    let iso_century = neither _ _ iso_sign.0 in
    let iso_year = neither _ _ iso_century.0 in
    let last = neither _ _ iso_year.0 in
    let sign = neither _ _ last.0 in
    let century = neither _ _ sign.0 in
    let monday_week = neither _ _ century.0 in
    let sunday_week = neither _ _ monday_week.0 in
    let iso_week = neither _ _ sunday_week.0 in
    let weekday = neither _ _ iso_week.0 in
    record {
      year = record {
        whole = rw year (sym (year_of-calendar_date y m d date));
        hundreds = if_none p.year_century _ century.1;
        sign = if_none p.is_before_zero _ sign.1;
        last = if_none p.year_last_two _ last.1;
      };
      iso_year = record {
        whole = if_none p.iso_year _ iso_year.1;
        hundreds = if_none p.iso_year_century _ iso_century.1;
        sign = if_none p.is_iso_before_zero _ iso_sign.1;
        last = if_none p.iso_year_last_two _ iso_last.1;
      };
      month = rw month (sym (month_of-calendar_date y m d date));
      day_of_month = rw day (sym (day_of_month_of-calendar_date y m d date));
      ordinal = if_none p.ordinal _ weekday.0;
      weekday = if_none p.weekday _ weekday.1;
      iso_week = if_none p.iso_week _ iso_week.1;
      sunday_week = if_none p.sunday_week _ sunday_week.1;
      monday_week = if_none p.monday_week _ monday_week.1;
    }

same_day : (p : Parts) (y : ℤ) (m d : ℕ) → p.year ≡ Some y → p.month ≡ Some m → p.day ≡ Some d → has_other_parts p ≡ false
    → calendar_day y m d ≡ month_day p y m d
unfolding month_day
same_day p y m d year month day alone = elim (cases_Bool (m == 0 || nat_lt 12 m)) [
  | inl t ↦ rw t refl
  | inr f ↦ elim (cases_Bool (d == 0 || nat_lt (days_in_month (is_leap_year y) m) d)) [
    | inl t ↦ rw (f, t) refl
    | inr g ↦
        let date : IsCalendarDate y m d = grind (arith, nat_tests, f, g) in
        rw (f, g) (sym (day_with-only p _ (has_parts p y m d year month day alone date)))
  ]
]

by_year : (p : Parts) (y : ℤ) (m d : ℕ) → p.month ≡ Some m → p.day ≡ Some d
    → day_by_year p (Some y) ≡ (if is_outside first_year last_year y then Err (Wrong Year) else month_day p y m d)
unfolding day_in_year
by_year p y m d month day = rw (month, day) refl

-- the date of these parts is that of the year, the month and the day
pub plain_date_of : (p : Parts) (y : ℤ) (m d : ℕ) → p.year ≡ Some y → p.month ≡ Some m → p.day ≡ Some d → has_other_parts p ≡ false
    → (if is_outside first_year last_year y then Err (Wrong Year) else calendar_day y m d) ≡ date_of_parts p
unfolding date_of_parts
plain_date_of p y m d year month day alone =
    let known : calendar_year p ≡ Some y = rw year refl in
    ap (λ r. if is_outside first_year last_year y then Err (Wrong Year) else r) (same_day p y m d year month day alone) ∙
    (sym (by_year p y m d month day) ∙ sym (ap (day_by_year p) known))

-- Which error a call returns for which parts: the proofs of the laws of `specs/StatusLaws.antt`.
use Rattle.std.proofs.Common.{sym, Option, Some, None, ◌≡◌, ◌≢◌, ◌∙◌, ◌<◌, ◌≤◌, ◌==◌, ◌||◌, ◌⊎◌, ℕ, Bool, true, false, nat_lt, inl, inr, refl, ap, arith, codes}
use Rattle.std.proofs.Common.{ℤ, pos, negsuc, neg_ℤ, ◌-ℤ◌, ◌≤ℤ◌, ◌<ℤ◌, unsigned_abs, Result, Ok, Err, OkIff, IfErr}
use Rattle.std.specs.Prelude.{if◌then◌else◌}
use Rattle.std.proofs.lemmas.Bool.Decides.{nat_tests}
use Rattle.std.proofs.lemmas.Bool.{cases_Bool}
use Rattle.std.proofs.lemmas.Int.{ints}
use Rattle.calendar_values.specs.Calendar.{is_leap_year, days_in_month, days_in_year, epoch_julian_day}
use Rattle.calendar_values.specs.CalendarDateLemmas.{days_in_month_bounds}
use Rattle.calendar_values.specs.Clock.{AreTimeParts}
use Rattle.calendar_values.specs.Constructors.{calendar_date, ordinal_date, iso_week_date, julian_date, clock_time_nano}
use Rattle.calendar_values.specs.Durations.{least_duration, greatest_duration}
use Rattle.calendar_values.specs.IsoWeekDateLemmas.{weeks_in_year-most}
use Rattle.calendar_values.specs.Offsets.{IsOffset, offset_of_seconds, offset_hours_of, offset_minutes_of, offset_seconds_of, offset_refusal}
use Rattle.calendar_values.specs.OutcomeLemmas.{IsOneAnswer-calendar_date, IsOneAnswer-ordinal_date, IsOneAnswer-iso_week_date, IsOneAnswer-julian_date}
use Rattle.calendar_values.specs.OutcomeLemmas.{IsOneAnswer-offset, IsOneAnswer-offset_seconds}
use Rattle.calendar_values.specs.Range.{first_year, last_year, first_day, last_day, is_outside, IsYear, IsDay}
use Rattle.calendar_values.specs.Refusals.{Refusal, date_refusal, ordinal_refusal, iso_week_date_refusal, clock_refusal, conditional_refusal, outright_refusal}
use Rattle.calendar_values.specs.WallClock.{wall_clock, first_wall_clock, last_wall_clock}
use Rattle.calendar_values.specs.Weeks.{weeks_in_year}
use Rattle.calendar_values.specs.YearLemmas.{days_in_year_bounds}
use Rattle.offset_times.specs.Local.{Local, wall_at}
use Rattle.stamp_times.specs.Refusals.{timestamp_of_parts}
use Rattle.muxandu_c.proofs.InversionLemmas.{date_value-in, value_of, offset-in, clock_answers, inside}
use Rattle.muxandu_c.proofs.StatusTextLemmas.{refused_numbered-again, refused_numbered-is}
use Rattle.muxandu_c.specs.Answers.{and_then, as_refused, refused_part, status_number, status_of, value_or}
use Rattle.muxandu_c.specs.Clocks.{time_value}
use Rattle.muxandu_c.specs.OffsetParts.{offset_from_parts, offset_to_parts, offset_as_refused, refused_offset_part}
use Rattle.muxandu_c.specs.PartsReplaced.{part_numbered}
use Rattle.muxandu_c.specs.Reads.{date_from_julian_day}
use Rattle.muxandu_c.specs.StatusLaws.{ErrorsHaveNumbers, IsYearOutside, IsMonth, DateErrors, OrdinalDateErrors, WeekDateErrors, TimeErrors, OffsetErrors}
use Rattle.muxandu_c.specs.StatusTexts.{refused_numbered}
use Rattle.muxandu_c.specs.StatusLaws.{StatusesTell, TimestampErrors, DateTimeErrors, NumberErrors}
use Rattle.muxandu_c.specs.Values.{day_from_date, day_from_ordinal_date, date_parts, date_value}
use Rattle.muxandu_c.specs.Values.{unit_numbered}
use Rattle.muxandu_c.specs.WeekDates.{day_from_week_date, refused_with_weekday}
use Rattle.muxandu_c.specs.declared.offsets.MuxanduOffset.{MuxanduOffset}
use Rattle.muxandu_c.specs.declared.refused.Refused.{Refused}
use Rattle.muxandu_c.specs.declared.refused.Refused.TheVariants as refused
use Rattle.muxandu_c.specs.declared.values.MuxanduDate.{MuxanduDate}
use Rattle.muxandu_c.specs.declared.values.MuxanduDateTime.{MuxanduDateTime}
use Rattle.muxandu_c.specs.declared.values.MuxanduOrdinalDate.{MuxanduOrdinalDate}
use Rattle.muxandu_c.specs.declared.values.MuxanduWeekDate.{MuxanduWeekDate}

-- an answer of the library to arguments that do not fit
refusal_of : {A : Type 0} (answer : Result A Refusal) (fits : Type 0) (value : A) (refusal : Refusal) → OkIff answer fits value
    → IfErr answer (λ r. r ≡ refusal) → ¬ fits → answer ≡ Err refusal
refusal_of {A} (Ok x) fits value refusal h named not = absurd (not h.0)
refusal_of {A} (Err r) fits value refusal h named not = ap (λ (z : Refusal). Err z) named

-- and as a caller sees it
refused_as : {A : Type 0} (answer : Result A Refusal) (refusal : Refusal) (e : Refused) → answer ≡ Err refusal → refused_part refusal ≡ e
    → as_refused answer ≡ Err e
refused_as {A} answer refusal e made is = ap as_refused made ∙ ap (λ (z : Refused). Err z) is

-- a number outside two ends, and one that is not between them
outside : (first last n : ℤ) → (n <ℤ first) ⊎ (last <ℤ n) → is_outside first last n ≡ true
outside first last n h = elim h [ inl low ↦ grind (arith, ints) | inr high ↦ grind (arith, ints) ]

not_between : (first last n : ℤ) → ¬ ((first ≤ℤ n) × (n ≤ℤ last)) → is_outside first last n ≡ true
not_between first last n h =
    elim (cases_Bool (is_outside first last n)) [ inl t ↦ t | inr t ↦ absurd (h (grind (arith, ints), grind (arith, ints))) ]

-- 0, or above a limit
none_or_above : (limit n : ℕ) → (n ≡ 0) ⊎ (limit < n) → (n == 0 || nat_lt limit n) ≡ true
none_or_above limit n h = elim h [ inl none ↦ grind (arith, nat_tests) | inr above ↦ grind (arith, nat_tests) ]

some_at_most : (limit n : ℕ) → 1 ≤ n → n ≤ limit → (n == 0 || nat_lt limit n) ≡ false
some_at_most limit n low high = grind (arith, nat_tests)

inside_year : (y : ℤ) → IsYear y → is_outside first_year last_year y ≡ false
inside_year y h = inside first_year last_year y h.0 h.1

-- a year outside the range is not one of it
not_year : (y : ℤ) → IsYearOutside y → ¬ IsYear y
not_year y h = λ k. elim h [ inl low ↦ omega (arith, ints, k.0) | inr high ↦ omega (arith, ints, k.1) ]

months-refused : (v : MuxanduDate) → (v.month ≡ 0) ⊎ (12 < v.month) → day_from_date v ≡ Err refused.Month
months-refused v h = rw (none_or_above 12 v.month h) refl

-- a date with a month
dated : (v : MuxanduDate) (refusal : Refusal) (e : Refused) → IsMonth v.month → calendar_date v.year v.month v.day ≡ Err refusal → refused_part refusal ≡ e
    → day_from_date v ≡ Err e
dated v refusal e month made is =
    rw (some_at_most 12 v.month month.0 month.1) (refused_as (calendar_date v.year v.month v.day) refusal e made is)

date_refused : (y : ℤ) (m d : ℕ) → ¬ (IsYear y × ((1 ≤ d) × (d ≤ days_in_month (is_leap_year y) m))) → calendar_date y m d ≡ Err (date_refusal y d)
date_refused y m d not = let given = IsOneAnswer-calendar_date y m d in refusal_of _ _ _ _ given.value given.refused not

pub date_errors : DateErrors
date_errors = record {
  month = months-refused;
  year = λ v month h. dated v _ _ month (date_refused v.year v.month v.day (λ k. not_year v.year h k.0)) (rw (outside first_year last_year v.year h) refl);
  day = λ v month year h. dated v _ _ month (date_refused v.year v.month v.day (λ k. no_day v.year v.month v.day h k.1.0 k.1.1))
      (rw (inside_year v.year year, none_or_above 31 v.day h) refl);
  day_of_month = λ v month year above within. dated v _ _ month (date_refused v.year v.month v.day (λ k. omega (arith, k.1.1)))
      (rw (inside_year v.year year, some_at_most 31 v.day (omega (arith, days_in_month_bounds (is_leap_year v.year) v.month)) within) refl);
  none = λ v month year low high. date_value-in v.year v.month v.day month.0 month.1 (year, (low, high));
} where
  no_day : (y : ℤ) (m d : ℕ) → (d ≡ 0) ⊎ (31 < d) → 1 ≤ d → d ≤ days_in_month (is_leap_year y) m → ⊥
  no_day y m d h low high =
      elim h [ inl none ↦ omega (arith, none) | inr above ↦ omega (arith, days_in_month_bounds (is_leap_year y) m) ]

-- the errors of a year and a day of the year
ordinal_refused : (v : MuxanduOrdinalDate) (e : Refused) → ¬ (IsYear v.year × ((1 ≤ v.ordinal) × (v.ordinal ≤ days_in_year v.year)))
    → refused_part (ordinal_refusal v.year v.ordinal) ≡ e → day_from_ordinal_date v ≡ Err e
ordinal_refused v e not is =
    let given = IsOneAnswer-ordinal_date v.year v.ordinal in
    refused_as (ordinal_date v.year v.ordinal) _ e (refusal_of _ _ _ _ given.value given.refused not) is

pub ordinal_date_errors : OrdinalDateErrors
ordinal_date_errors = record {
  year = λ v h. ordinal_refused v _ (λ k. not_year v.year h k.0) (rw (outside first_year last_year v.year h) refl);
  ordinal = λ v year h. ordinal_refused v _ (λ k. no_day v.year v.ordinal h k.1.0 k.1.1) (rw (inside_year v.year year, none_or_above 366 v.ordinal h) refl);
  ordinal_of_year = λ v year above within. ordinal_refused v _ (λ k. omega (arith, k.1.1))
      (rw (inside_year v.year year, some_at_most 366 v.ordinal (omega (arith, days_in_year_bounds v.year)) within) refl);
  none = λ v year low high. ap as_refused (value_of _ _ _ (IsOneAnswer-ordinal_date v.year v.ordinal).value (year, (low, high)));
} where
  no_day : (y : ℤ) (o : ℕ) → (o ≡ 0) ⊎ (366 < o) → 1 ≤ o → o ≤ days_in_year y → ⊥
  no_day y o h low high = elim h [ inl none ↦ omega (arith, none) | inr above ↦ omega (arith, days_in_year_bounds y) ]

-- the errors of an ISO week date
above : (limit n : ℕ) → limit < n → nat_lt limit n ≡ true
above limit n h = grind (arith, nat_tests)

at_most : (limit n : ℕ) → n ≤ limit → nat_lt limit n ≡ false
at_most limit n h = grind (arith, nat_tests)

outright_named : (r : Refusal) (e : Refused) → r.conditional ≡ false → refused_part r ≡ e → (if r.conditional then refused.Weekday else refused_part r) ≡ e
outright_named r e mark named = second r.conditional refused.Weekday (refused_part r) mark ∙ named where
  second : (t : Bool) (x y : Refused) → t ≡ false → (if t then x else y) ≡ y
  second t x y h = rw h refl

-- an error of the year or the week of an ISO week date, which no day of the week changes
outright_week : (v : MuxanduWeekDate) (e : Refused) (refusal : Refusal) → iso_week_date_refusal v.year v.week ≡ refusal → refusal.conditional ≡ false
    → refused_part refusal ≡ e → ¬ (IsYear v.year × ((1 ≤ v.week) × (v.week ≤ weeks_in_year v.year))) → day_from_week_date v ≡ Err e
outright_week v e refusal is mark named not = choose (nat_lt 6 v.weekday) where
  choose : (t : Bool) → (if t then Err (refused_with_weekday v.year v.week) else as_refused (iso_week_date v.year v.week v.weekday)) ≡ Err e
  choose true = ap (λ (r : Refusal). Err (if r.conditional then refused.Weekday else refused_part r)) is
      ∙ ap (λ (z : Refused). Err z) (outright_named refusal e mark named)
  choose false =
      let given = IsOneAnswer-iso_week_date v.year v.week v.weekday in
      refused_as _ _ e (refusal_of _ _ _ _ given.value given.refused (λ k. not (k.0, k.1.0))) (ap refused_part is ∙ named)

pub week_date_errors : WeekDateErrors
week_date_errors = record {
  year = λ v h. outright_week v refused.Year (outright_refusal (codes "year")) (rw (outside first_year last_year v.year h) refl) refl refl
      (λ k. not_year v.year h k.0);
  week = λ v year h. outright_week v refused.Week (outright_refusal (codes "week"))
      (rw (inside_year v.year year, none_or_above 53 v.week h) refl) refl refl (λ k. no_week v.year v.week h k.1.0 k.1.1);
  weekday = λ v year low high bad. rw (above 6 v.weekday bad) (ap (λ (z : Refused). Err z) (unfit v.year v.week year low high));
  week_of_year = λ v year bad within day. rw (at_most 6 v.weekday day) (week_refused v year bad within);
  none = λ v year low high day range. rw (at_most 6 v.weekday day)
      (ap as_refused (value_of _ _ _ (IsOneAnswer-iso_week_date v.year v.week v.weekday).value (year, ((low, high), range))));
} where
  no_week : (y : ℤ) (w : ℕ) → (w ≡ 0) ⊎ (53 < w) → 1 ≤ w → w ≤ weeks_in_year y → ⊥
  no_week y w h low high = elim h [ inl none ↦ omega (arith, none) | inr more ↦ omega (arith, weeks_in_year-most y) ]

  unfit : (y : ℤ) (w : ℕ) → IsYear y → 1 ≤ w → w ≤ 53 → refused_with_weekday y w ≡ refused.Weekday
  unfit y w year low high = rw (inside_year y year, some_at_most 53 w low high) (by_weeks (nat_lt (weeks_in_year y) w)) where
    by_weeks : (t : Bool) → (
        let refusal = if t then conditional_refusal (codes "week") else conditional_refusal (codes "year") in
        if refusal.conditional then refused.Weekday else refused_part refusal) ≡ refused.Weekday
    by_weeks true = refl
    by_weeks false = refl

  week_refused : (v : MuxanduWeekDate) → IsYear v.year → weeks_in_year v.year < v.week → v.week ≤ 53
      → as_refused (iso_week_date v.year v.week v.weekday) ≡ Err refused.WeekOfYear
  week_refused v year bad within =
      let given = IsOneAnswer-iso_week_date v.year v.week v.weekday in
      refused_as _ _ _ (refusal_of _ _ _ _ given.value given.refused (λ k. omega (arith, k.1.0.1)))
      (rw (inside_year v.year year, some_at_most 53 v.week (omega arith) within, above (weeks_in_year v.year) v.week bad) refl)

-- the errors of a time of day
clock_refused : (h m s n : ℕ) (e : Refused) → ¬ AreTimeParts h m s n → refused_part (clock_refusal h m s (codes "nanosecond")) ≡ e
    → time_value h m s n ≡ Err e
clock_refused h m s n e not is =
    let given = clock_answers h m s n in refused_as (clock_time_nano h m s n) _ e (refusal_of _ _ _ _ given.value given.refused not) is

pub time_errors : TimeErrors
time_errors = record {
  hour = λ h m s n bad. clock_refused h m s n _ (λ k. omega (arith, k.hour)) (rw (above 23 h bad) refl);
  minute = λ h m s n hour bad. clock_refused h m s n _ (λ k. omega (arith, k.minute)) (rw (at_most 23 h hour, above 59 m bad) refl);
  second = λ h m s n hour minute bad. clock_refused h m s n _ (λ k. omega (arith, k.second))
      (rw (at_most 23 h hour, at_most 59 m minute, above 59 s bad) refl);
  nanosecond = λ h m s n hour minute second bad. clock_refused h m s n _ (λ k. omega (arith, k.nanosecond))
      (rw (at_most 23 h hour, at_most 59 m minute, at_most 59 s second) refl);
  none = λ h m s n p. ap as_refused (value_of _ _ _ (clock_answers h m s n).value p);
}

-- the errors of an offset
abbrev offset_parts : ℤ → MuxanduOffset
offset_parts o = record { hours = offset_hours_of o; minutes = offset_minutes_of o; seconds = offset_seconds_of o }

offset_refused : (o : ℤ) → ¬ IsOffset o → offset_to_parts o ≡ Err refused.OffsetSeconds
offset_refused o not =
    let given = IsOneAnswer-offset_seconds o in
    ap (λ (r : Result ℤ Refused). and_then r (λ (o : ℤ). Ok (offset_parts o)))
    (refused_as (offset_of_seconds o) _ _ (refusal_of _ _ _ _ given.value given.refused not) refl)

parts_refused : (v : MuxanduOffset) (e : Refused) → ¬ ((unsigned_abs v.hours ≤ 25) × (unsigned_abs v.minutes ≤ 59) × (unsigned_abs v.seconds ≤ 59))
    → refused_offset_part (offset_refusal v.hours v.minutes) ≡ e → offset_from_parts v ≡ Err e
parts_refused v e not is =
    let given = IsOneAnswer-offset v.hours v.minutes v.seconds in
    ap offset_as_refused (refusal_of _ _ _ _ given.value given.refused not) ∙ ap (λ (z : Refused). Err z) is

hours_outside : (z : ℤ) → 25 < unsigned_abs z → is_outside (neg_ℤ (pos 25)) (pos 25) z ≡ true
hours_outside (pos n) h = grind (arith, ints)
hours_outside (negsuc n) h = grind (arith, ints)

hours_inside : (z : ℤ) → unsigned_abs z ≤ 25 → is_outside (neg_ℤ (pos 25)) (pos 25) z ≡ false
hours_inside (pos n) h = grind (arith, ints)
hours_inside (negsuc n) h = grind (arith, ints)

minutes_outside : (z : ℤ) → 59 < unsigned_abs z → is_outside (neg_ℤ (pos 59)) (pos 59) z ≡ true
minutes_outside (pos n) h = grind (arith, ints)
minutes_outside (negsuc n) h = grind (arith, ints)

minutes_inside : (z : ℤ) → unsigned_abs z ≤ 59 → is_outside (neg_ℤ (pos 59)) (pos 59) z ≡ false
minutes_inside (pos n) h = grind (arith, ints)
minutes_inside (negsuc n) h = grind (arith, ints)

pub offset_errors : OffsetErrors
offset_errors = record {
  before = λ o h. offset_refused o (λ k. omega (arith, ints, k.0));
  after = λ o h. offset_refused o (λ k. omega (arith, ints, k.1));
  none = λ o h. (
    _,
    ap (λ (r : Result ℤ Refused). and_then r (λ (o : ℤ).
        Ok (offset_parts o))) (offset-in o h),
  );
  hours = λ v bad. parts_refused v _ (λ k. omega (arith, k.0)) (rw (hours_outside v.hours bad) refl);
  minutes = λ v hours bad. parts_refused v _ (λ k. omega (arith, k.1)) (rw (hours_inside v.hours hours, minutes_outside v.minutes bad) refl);
  seconds = λ v hours minutes bad. parts_refused v _ (λ k. omega (arith, k.2)) (rw (hours_inside v.hours hours, minutes_inside v.minutes minutes) refl);
}

-- the errors of a timestamp, and of a duration
pub timestamp_errors : TimestampErrors
unfolding timestamp_of_parts
timestamp_errors = record {
  second = λ v not. rw (not_between first_wall_clock last_wall_clock _ not) refl;
  nanosecond = λ v h bad. rw (inside first_wall_clock last_wall_clock _ h.0 h.1, above 999_999_999 v.nanoseconds bad) refl;
  none = λ v h low. rw (inside first_wall_clock last_wall_clock _ h.0 h.1, at_most 999_999_999 v.nanoseconds low) refl;
  milliseconds = λ count not. rw (not_between first_wall_clock last_wall_clock _ not) refl;
  duration = λ w not. rw (not_between least_duration greatest_duration _ not) refl;
}

-- the errors of a date-time
error-of : {A B : Type 0} (e : Refused) (next : A → Result B Refused) (r : Result A Refused) → r ≡ Err e → and_then r next ≡ Err e
error-of {A} {B} e next r is = ap (λ (z : Result A Refused). and_then z next) is

value-of : {A B : Type 0} (x : A) (next : A → Result B Refused) (r : Result A Refused) → r ≡ Ok x → and_then r next ≡ next x
value-of {A} {B} x next r is = ap (λ (z : Result A Refused). and_then z next) is

abbrev at_offset_value : ℤ → ℤ → ℕ → Result Local Refused
at_offset_value seconds n c = and_then (as_refused (offset_of_seconds seconds)) (λ o. Ok (wall_at (wall_clock n c) o))

abbrev timed_value : MuxanduDateTime → ℤ → Result Local Refused
timed_value v n = and_then (time_value v.hour v.minute v.second v.nanosecond) (at_offset_value v.offset_seconds n)

offset_error : (o : ℤ) (e : Refused) → offset_to_parts o ≡ Err e → as_refused (offset_of_seconds o) ≡ Err e
offset_error o e h = choose (as_refused (offset_of_seconds o)) h where
  choose : (r : Result ℤ Refused)
      → and_then r (λ (o : ℤ). Ok (offset_parts o)) ≡ Err e → r ≡ Err e
  choose (Ok x) h = absurd cc
  choose (Err r) h = let same : r ≡ e = cc in ap (λ (z : Refused). Err z) same

pub date_time_errors : DateTimeErrors
date_time_errors = record {
  date = λ v e h. error-of e (timed_value v) (date_value v.year v.month v.day) h;
  time = λ v n e date h. value-of n (timed_value v) (date_value v.year v.month v.day) date ∙ error-of e (at_offset_value v.offset_seconds n) _ h;
  offset = λ v n c e date time h. value-of n (timed_value v) (date_value v.year v.month v.day) date
      ∙ value-of c (at_offset_value v.offset_seconds n) _ time
      ∙ error-of e (λ (o : ℤ). Ok (wall_at (wall_clock n c) o)) _ (offset_error v.offset_seconds e h);
}

-- the errors of a number
julian_refused : (j : ℤ) → ¬ IsDay (j -ℤ epoch_julian_day) → date_from_julian_day j ≡ Err refused.DayNumber
julian_refused j not =
    let given = IsOneAnswer-julian_date j in
    ap (λ (r : Result ℤ Refused). and_then r (λ (n : ℤ). Ok (date_parts n)))
    (refused_as (julian_date j) _ _ (refusal_of _ _ _ _ given.value given.refused not) refl)

no_unit : (n : ℕ) → (n ≡ 0) ⊎ (7 < n) → unit_numbered n ≡ Err refused.Unit
no_unit n h = elim h [ inl none ↦ rw none refl | inr more ↦ grind (arith, nat_tests) ]

no_part : (n : ℕ) → (n ≡ 0) ⊎ (8 < n) → part_numbered n ≡ Err refused.Unit
no_part n h = elim h [ inl none ↦ rw none refl | inr more ↦ grind (arith, nat_tests) ]

pub number_errors : NumberErrors
number_errors = record {
  day = λ n not. rw (not_between first_day last_day n not) refl;
  julian_day = julian_refused;
  unit = no_unit;
  part = no_part;
}

pub error_numbers : ErrorsHaveNumbers
error_numbers = record { error = refused_numbered-again; number = refused_numbered-is }

-- no error has the number 0
not_zero : (e : Refused) → status_number e ≢ 0
not_zero e = λ h. none (sym (refused_numbered-again e) ∙ ap refused_numbered h) where
  none : ◌≡◌ {A = Option Refused} (Some e) None → ⊥
  none h = absurd cc

statuses-zero : {A : Type 0} (r : Result A Refused) → status_of r ≡ 0 → (x : A) × (r ≡ Ok x)
statuses-zero {A} (Ok x) h = (x, refl)
statuses-zero {A} (Err e) h = absurd (not_zero e h)

statuses-value : {A : Type 0} (r : Result A Refused) (there x : A) → r ≡ Ok x → (status_of r ≡ 0) × (value_or r there ≡ x)
statuses-value {A} (Ok y) there x h = (refl, cc)
statuses-value {A} (Err e) there x h = absurd cc

statuses-error : {A : Type 0} (r : Result A Refused) (there : A) (e : Refused) → r ≡ Err e → (status_of r ≢ 0) × (value_or r there ≡ there)
statuses-error {A} (Ok y) there e h = absurd cc
statuses-error {A} (Err e') there e h = (not_zero e', refl)

pub statuses : (A : Type 0) → StatusesTell A
statuses A = record { zero = statuses-zero; value = statuses-value; error = statuses-error }

-- The day of an ISO week date: that of the week date of a day is the day, and the other way round.
use Rattle.std.proofs.Common.{◌≡◌, ◌<◌, ◌≤◌, ◌==◌, ◌||◌, ℕ, Bool, true, false, nat_lt, codes, refl, ap, ◌∙◌, arith, ℤ, Result, Ok, Err}
use Rattle.std.specs.Prelude.{IfOk, if◌then◌else◌}
use Rattle.std.proofs.lemmas.Bool.Decides.{nat_tests}
use Rattle.std.proofs.lemmas.Int.{ints}
use Rattle.calendar_values.specs.Constructors.{iso_week_date}
use Rattle.calendar_values.specs.IsoWeekDateLemmas.{iso_week_date-of, iso_week_date-shows, weeks_in_year-most}
use Rattle.calendar_values.specs.OutcomeLemmas.{IsOneAnswer-iso_week_date}
use Rattle.calendar_values.specs.Range.{IsDay, first_day, last_day, first_year, last_year, is_outside}
use Rattle.calendar_values.specs.Refusals.{Refusal, IsIsoWeekDateOfRange, outright_refusal, conditional_refusal}
use Rattle.calendar_values.specs.SignedArith.{signed_arith}
use Rattle.calendar_values.specs.WeekLemmas.{weekday_of-parts, weekday_of-bound}
use Rattle.calendar_values.specs.Weeks.{weekday_of, iso_year_of, iso_week_of, weeks_in_year}
use Rattle.muxandu_c.specs.Answers.{and_then, as_refused}
use Rattle.muxandu_c.specs.WeekDates.{day_from_week_date, week_date_from_day, refused_with_weekday}
use Rattle.muxandu_c.specs.declared.refused.Refused.TheVariants as refused
use Rattle.muxandu_c.specs.declared.values.MuxanduWeekDate.{MuxanduWeekDate}

-- the week date of a day
abbrev shown : ℤ → MuxanduWeekDate
shown n = record { year = iso_year_of n; week = iso_week_of n; weekday = weekday_of n }

-- a day of the week that is tested
weekday_tested : (w : ℕ) → w < 7 → nat_lt 6 w ≡ false
weekday_tested w low = grind (arith, nat_tests)

-- the answer to an ISO week date whose day of the week is one
pub day_from_week_date-of : (v : MuxanduWeekDate) (y n date : ℤ) (weekday : ℕ) → n ≡ date → Ok date ≡ iso_week_date y v.week weekday → y ≡ v.year
    → weekday ≡ v.weekday → v.weekday < 7 → Ok n ≡ day_from_week_date v
day_from_week_date-of v y n date weekday day given year same low =
    let made : Ok n ≡ as_refused (iso_week_date v.year v.week v.weekday) = ap (λ (z : ℤ). Ok z) day ∙ ap as_refused (rw (year, same) at given) in
    rw (weekday_tested v.weekday low) made

-- a year and a week of the range are refused only with some day of the week
refused_conditionally : (outside first after : Bool) → outside ≡ false → first ≡ false →
    (if outside then outright_refusal (codes "year") else (if first then outright_refusal (codes "week")
    else (if after then conditional_refusal (codes "week") else conditional_refusal (codes "year")))).conditional ≡ true
refused_conditionally true first after e f = absurd cc
refused_conditionally false true after e f = absurd cc
refused_conditionally false false true e f = refl
refused_conditionally false false false e f = refl

-- an accepted week date leaves only the day of the week to be refused
pub refused_with_weekday-accepted : (y : ℤ) (week weekday : ℕ) → IsIsoWeekDateOfRange y week weekday → refused.Weekday ≡ refused_with_weekday y week
refused_with_weekday-accepted y week weekday fits =
    let outside : is_outside first_year last_year y ≡ false = grind (arith, ints, fits.0) in
    let first : (week == 0 || nat_lt 53 week) ≡ false = tested week (weeks_in_year y) fits.1.0.0 fits.1.0.1 (weeks_in_year-most y) in
    rw (refused_conditionally _ _ (nat_lt (weeks_in_year y) week) outside first) refl where
      tested : (w most : ℕ) → 1 ≤ w → w ≤ most → most ≤ 53 → (w == 0 || nat_lt 53 w) ≡ false
      tested w most low high limit = grind (arith, nat_tests)

-- the day of the week date of a day is the day
pub week_date_from_day-reads_back : (n : ℤ) → IfOk (week_date_from_day n) (λ date. day_from_week_date date ≡ Ok n)
week_date_from_day-reads_back n = choose (is_outside first_day last_day n) refl where
  back : IsDay n → day_from_week_date (shown n) ≡ Ok n
  back h = rw (weekday_tested (weekday_of n) (weekday_of-bound n), iso_week_date-of n h) refl

  choose : (t : Bool) → is_outside first_day last_day n ≡ t →
      IfOk (and_then (if t then Err refused.DayNumber else Ok n) (λ (day : ℤ). Ok (shown day))) (λ date. day_from_week_date date ≡ Ok n)
  choose true e = tt
  choose false e = back (grind (arith, ints), grind (arith, ints))

-- the week date of its day is the week date
pub day_from_week_date-reads_back : (v : MuxanduWeekDate) → IfOk (day_from_week_date v) (λ n. week_date_from_day n ≡ Ok v)
day_from_week_date-reads_back v = choose (nat_lt 6 v.weekday) (iso_week_date v.year v.week v.weekday) refl refl where
  there : (n : ℤ) → nat_lt 6 v.weekday ≡ false → iso_week_date v.year v.week v.weekday ≡ Ok n → week_date_from_day n ≡ Ok v
  there n t e =
      let shows = iso_week_date-shows v.year n v.week v.weekday (grind (arith, nat_tests)) e in
      let given = rw e at (IsOneAnswer-iso_week_date v.year v.week v.weekday) in
      let day : IsDay n = rw given.value.1 given.value.0.1.1 in
      let inside : is_outside first_day last_day n ≡ false = grind (arith, ints, day) in
      rw (inside, shows.week, shows.year, shows.weekday) refl

  choose : (t : Bool) (answer : Result ℤ Refusal) → nat_lt 6 v.weekday ≡ t → iso_week_date v.year v.week v.weekday ≡ answer →
      IfOk (if t then Err (refused_with_weekday v.year v.week) else as_refused answer) (λ n. week_date_from_day n ≡ Ok v)
  choose true answer t e = tt
  choose false (Ok n) t e = there n t e
  choose false (Err refusal) t e = tt

-- the day of the week of a number
pub ruleset weekday_parts = (signed_arith, weekday_of-parts)

use Rattle.std.proofs.Common.{arith, rules, FitsSigned, w32, w64, to_z-of_z, ◌≡◌, ◌||◌, ◌==◌, ◌≤◌, nat_lt, true, refl}
use Rattle.std.proofs.lemmas.Bool.Decides.{nat_tests}
use Rattle.calendar_values.specs.Range.{IsYear, IsDay}
use Rattle.calendar_values.specs.IsoWeekDateLemmas.{weeks_in_year-most, ShowsIsoWeekDate-day}
use Rattle.calendar_values.specs.SignedArith.{signed_casts}
use Rattle.calendar_values.specs.Weekday.{weekday_number}
use Rattle.calendar_values.specs.Weeks.{weeks_in_year, day_of_iso_week_date}
use Rattle.calendar_values.specs.OutcomeLemmas.{Gives-week, Gives-day, Gives-day_past}
use Rattle.calendar_values.proofs.WeekNumberLemmas.{day_of_iso_week_date-is}
use Rattle.calendar_values.proofs.date.Date.from_iso_week_date.Goals as goal

day : (c : goal.In-Some) → c.in-Some.date ≡ day_of_iso_week_date c.args.year c.args.week (weekday_number c.args.weekday)
day c =
    let fits : FitsSigned w32 c.args.year = search rules in
    let days : FitsSigned w64 c.days_to_week_day.result = search rules in
    day_of_iso_week_date-is c.args.year _ _ c.days_to_week_day.result c.args.week (weekday_number c.args.weekday) refl
    (simp to_z-of_z at c.in-Some.ensures.1) (simp to_z-of_z at c.days_to_week_day.ensures)

last : (c : goal.In-Some) → c.args.week ≤ weeks_in_year c.args.year
last c =
    let fits : FitsSigned w32 c.args.year = search rules in
    let weeks : c.weeks_in_year.result ≡ weeks_in_year c.args.year = simp to_z-of_z at c.weeks_in_year.ensures.value in
    omega arith

pub returns-then-week-eq0-clause-value : goal.returns-then-week-eq0-clause-value
returns-then-week-eq0-clause-value c =
    let year : IsYear c.args.year = (omega (arith, signed_casts), omega (arith, signed_casts)) in
    let out : ((c.args.week == 0) || nat_lt 53 c.args.week) ≡ true = grind (arith, nat_tests, c.then-week-eq0.either) in
    rw c.of_part-then-week-eq0.ensures (Gives-week c.args.year c.args.week _ year out (weeks_in_year-most c.args.year))

pub returns-in-Some-clause-value : goal.returns-in-Some-clause-value
returns-in-Some-clause-value c =
    let year : IsYear c.args.year = (omega (arith, signed_casts), omega (arith, signed_casts)) in
    let there : IsDay c.in-Some.date = rw c.in-Some.ensures.1 c.in-Some.ensures.0 in
    Gives-day c.args.year c.in-Some.date c.args.week (weekday_number c.args.weekday) year (omega arith) (last c) there (day c)

pub returns-in-Some-clause-shown : goal.returns-in-Some-clause-shown
returns-in-Some-clause-shown c =
    rw (day c) (ShowsIsoWeekDate-day c.args.year c.args.week (weekday_number c.args.weekday) (omega arith) (last c) (search rules))

pub returns-in-None-clause-value : goal.returns-in-None-clause-value
returns-in-None-clause-value c =
    let year : IsYear c.args.year = (omega (arith, signed_casts), omega (arith, signed_casts)) in
    let fits : FitsSigned w32 c.args.year = search rules in
    let days : FitsSigned w64 c.days_to_week_day.result = search rules in
    let weeks : c.weeks_in_year.result ≡ weeks_in_year c.args.year = simp to_z-of_z at c.weeks_in_year.ensures.value in
    let day =
    day_of_iso_week_date-is c.args.year _ _ c.days_to_week_day.result c.args.week (weekday_number c.args.weekday) refl refl
    (simp to_z-of_z at c.days_to_week_day.ensures) in
    rw c.of_part-in-None.ensures (Gives-day_past c.args.year _ c.args.week _ year (omega arith) (omega arith) (omega arith)
    (simp to_z-of_z at c.in-None.ensures) day)

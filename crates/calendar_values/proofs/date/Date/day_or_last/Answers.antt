use Rattle.std.proofs.Common.{◌≡◌, ◌+◌, ℕ, ℤ, arith, rules, FitsSigned, w32, to_z-of_z}
use Rattle.calendar_values.specs.Calendar.{is_leap_year, days_before_month, day_of_ordinal_date, IsCalendarDate}
use Rattle.calendar_values.specs.SignedArith.{signed_arith}
use Rattle.calendar_values.specs.Month.{month_number}
use Rattle.calendar_values.specs.Dates.{ShowsDate}
use Rattle.calendar_values.specs.CalendarDateLemmas.{IsOrdinalDate-date, ShowsDate-calendar_date}
use Rattle.calendar_values.specs.MonthNumberLemmas.{month_number_bounds}
use Rattle.calendar_values.proofs.MonthLaterLemmas.{IsCalendarDate-or_last}
use Rattle.calendar_values.proofs.date.Date.day_or_last.Goals as goal

shown : (y : ℤ) (m d before ordinal : ℕ) → IsCalendarDate y m d → before ≡ days_before_month (is_leap_year y) m → ordinal ≡ before + d
    → ShowsDate y m d (day_of_ordinal_date y ordinal)
shown y m d before ordinal h e f = rw (f, e) (ShowsDate-calendar_date y m d h)

pub invariant_of-result : goal.invariant_of-result
invariant_of-result c =
    let fits : FitsSigned w32 c.args.year = search rules in
    let kind = simp to_z-of_z at c.is_leap_year.ensures in
    let length = simp to_z-of_z at c.days_in_month.ensures.value in
    let before = rw kind at c.days_before_month.ensures.value in
    let bounds = month_number_bounds c.args.month in
    let date = IsOrdinalDate-date _ _ _ (IsCalendarDate-or_last c.args.year (month_number c.args.month) c.args.day bounds.0 bounds.1 c.requires.day) in
    let day = rw length at c.at_most-day.ensures in
    simp to_z-of_z (omega (arith, signed_arith), omega (arith, date.first, date.last, day))

pub returns-clause-shown : goal.returns-clause-shown
returns-clause-shown c =
    let fits : FitsSigned w32 c.args.year = search rules in
    let kind = simp to_z-of_z at c.is_leap_year.ensures in
    let length = simp to_z-of_z at c.days_in_month.ensures.value in
    let before = rw kind at c.days_before_month.ensures.value in
    let bounds = month_number_bounds c.args.month in
    let there = IsCalendarDate-or_last c.args.year (month_number c.args.month) c.args.day bounds.0 bounds.1 c.requires.day in
    let day = rw length at c.at_most-day.ensures in
    simp to_z-of_z (shown _ _ _ _ _ there before (omega (arith, day)))

use Rattle.std.proofs.Common.{arith, ◌≡◌, ℤ, ◌+ℤ◌, to_z, of_z, w32, w64}
use Rattle.calendar_values.specs.CalendarDateLemmas.{IsCalendarDate-of}
use Rattle.calendar_values.specs.Months.{months_later, month_index}
use Rattle.calendar_values.specs.SignedArith.{signed_casts}
use Rattle.calendar_values.proofs.MonthLaterLemmas.{SomeDay-or_last, month_of_index_bounds, month_index-shown, day-shown}
use Rattle.calendar_values.proofs.date.Date.checked_add_months.Goals as goal

-- what an i64 holds of a count of months and some more
abbrev count_held : ℤ → ℤ → ℤ
count_held index months = to_z w64 (of_z w64 (to_z w64 (of_z w64 index) +ℤ to_z w64 (of_z w64 (to_z w32 (of_z w32 months)))))

pub returns-clause-value : goal.returns-clause-value
unfolding months_later
returns-clause-value c =
    let count : count_held c.month_index.result c.args.months ≡ month_index c.args.self +ℤ c.args.months = omega (arith, signed_casts) in
    let bounds = month_of_index_bounds (month_index c.args.self +ℤ c.args.months) in
    let made = rw (count, c.day.ensures.value) at c.in_month.ensures.value in
    SomeDay-or_last _ _ _ _ bounds.0 bounds.1 (IsCalendarDate-of c.args.self).day_first made

pub returns-clause-month : goal.returns-clause-month
returns-clause-month c =
    let count : count_held c.month_index.result c.args.months ≡ month_index c.args.self +ℤ c.args.months = omega (arith, signed_casts) in
    let made = rw count at c.in_month.ensures.shown in
    month_index-shown _ _ _ made

pub returns-clause-day : goal.returns-clause-day
returns-clause-day c =
    let count : count_held c.month_index.result c.args.months ≡ month_index c.args.self +ℤ c.args.months = omega (arith, signed_casts) in
    let made = rw (count, c.day.ensures.value) at c.in_month.ensures.shown in
    day-shown _ _ _ made

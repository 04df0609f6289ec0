use Rattle.std.proofs.Common.{rules, arith, ◌≡◌, ◌+◌, ◌-◌, pos, ◌+ℤ◌, ◌-ℤ◌, FitsSigned, to_z, of_z, w32, to_z-of_z}
use Rattle.calendar_values.specs.Calendar.{days_in_year}
use Rattle.calendar_values.specs.SignedArith.{signed_arith}
use Rattle.calendar_values.specs.Weeks.{weekday_of}
use Rattle.calendar_values.specs.YearLemmas.{days_in_year_bounds}
use Rattle.calendar_values.proofs.WeekNumberLemmas.{IsThursdayOf, IsThursdayOf-previous, IsThursdayOf-next}
use Rattle.calendar_values.proofs.date.Date.thursday.Goals as goal

previous : (c : goal.After-days_in_year) → IsThursdayOf c.args.self (to_z w32 (of_z w32 (to_z w32 (of_z w32 c.self.inside.year) -ℤ pos 1)))
    (c.days_in_year.result + (c.self.inside.ordinal + 3) - c.number_days_from_monday-days_from_monday.result)
previous c =
    let y = c.self.inside.year in
    let fits : FitsSigned w32 y = search rules in
    IsThursdayOf-previous c.args.self y _ c.self.inside.ordinal c.number_days_from_monday-days_from_monday.result _
    c.self.invariant.0 c.self.invariant.1 c.self.view_is
    (omega (arith, signed_arith, c.self.invariant.0)) (omega arith) c.if-ordinal-days_from_monday.true (omega arith)

next : (c : goal.After-struct_told-then-ordinal-length-1) → IsThursdayOf c.args.self (to_z w32 (of_z w32 (to_z w32 (of_z w32 c.self.inside.year) +ℤ pos 1)))
    (c.self.inside.ordinal + 3 - c.number_days_from_monday-days_from_monday.result - c.days_in_year-length.result)
next c =
    let y = c.self.inside.year in
    let fits : FitsSigned w32 y = search rules in
    let length : c.days_in_year-length.result ≡ days_in_year y = simp to_z-of_z at c.days_in_year-length.ensures in
    IsThursdayOf-next c.args.self y _ c.self.inside.ordinal c.number_days_from_monday-days_from_monday.result _
    c.self.invariant.0 c.self.invariant.1 c.self.view_is
    (omega (arith, signed_arith, c.self.invariant.0)) (omega arith) c.if-ordinal-days_from_monday.false (omega arith) (omega arith)

pub invariant_of-result : goal.invariant_of-result
invariant_of-result c = let t = previous c in (t.year_in_range, t.date)

pub returns-then-ordinal-days_from_monday : goal.returns-then-ordinal-days_from_monday
returns-then-ordinal-days_from_monday c = (previous c).day

pub invariant_of-result-then-ordinal-length : goal.invariant_of-result-then-ordinal-length
invariant_of-result-then-ordinal-length c = let t = next c in (t.year_in_range, t.date)

pub returns-then-ordinal-length : goal.returns-then-ordinal-length
returns-then-ordinal-length c = (next c).day

pub overflow_sub-year : goal.overflow_sub-year
overflow_sub-year c = omega (arith, signed_arith, c.self.invariant.0)

pub overflow_add-result : goal.overflow_add-result
overflow_add-result c = omega (arith, days_in_year_bounds)

pub overflow_sub-result : goal.overflow_sub-result
overflow_sub-result c = omega (arith, days_in_year_bounds)

pub overflow_add-result-then-ordinal-length : goal.overflow_add-result-then-ordinal-length
overflow_add-result-then-ordinal-length c = omega (arith, signed_arith, c.self.invariant.0)

pub invariant_of-result-2 : goal.invariant_of-result-2
invariant_of-result-2 c =
    let fits : FitsSigned w32 c.self.inside.year = search rules in
    let length = simp to_z-of_z at c.days_in_year-length.ensures in
    simp to_z-of_z (c.self.invariant.0, record { first = omega arith; last = omega arith })

pub returns : goal.returns
returns c =
    let fits : FitsSigned w32 c.self.inside.year = search rules in
    let weekday : c.number_days_from_monday-days_from_monday.result ≡ weekday_of c.args.self = cc in
    simp to_z-of_z (omega (arith, signed_arith, c.self.view_is, weekday))

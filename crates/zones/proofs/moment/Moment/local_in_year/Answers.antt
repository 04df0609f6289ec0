use Rattle.std.proofs.Common.{◌≡◌, pos, ◌*ℤ◌, to_z, of_z, arith, ap, ◌∙◌}
use mir.Syntax.{w64, w32}
use Rattle.calendar_values.specs.Calendar.{year_start}
use Rattle.calendar_values.specs.SignedArith.{signed_arith}
use Rattle.zones.specs.Rules.{rule_day}
use Rattle.zones.proofs.RuleLemmas.{back_y, year_start_bounds}
use Rattle.zones.proofs.CycleLemmas.{local_second_is}
use Rattle.zones.proofs.moment.Moment.local_in_year.Goals as goal

pub overflow_mul-result : goal.overflow_mul-result
overflow_mul-result c =
    let back = ap year_start (back_y c.args.year c.requires) in
    let b = year_start_bounds c.args.year c.requires in
    let b0 = b.0 in
    let b1 = b.1 in
    let low = c.in_year.ensures.low in
    let high = c.in_year.ensures.high in
    omega (arith, signed_arith)

pub overflow_add-result : goal.overflow_add-result
overflow_add-result c =
    let back = ap year_start (back_y c.args.year c.requires) in
    let b = year_start_bounds c.args.year c.requires in
    let b0 = b.0 in
    let b1 = b.1 in
    let low = c.in_year.ensures.low in
    let high = c.in_year.ensures.high in
    let p : to_z w64 (of_z w64 (to_z w64 (of_z w64 c.in_year.result) *ℤ pos 86400)) ≡ c.in_year.result *ℤ pos 86400 = omega (arith, signed_arith) in
    let t : to_z w64 (of_z w64 (to_z w32 (of_z w32 c.args.self.time))) ≡ c.args.self.time = omega (arith, signed_arith) in
    omega (arith, signed_arith)

pub returns-clause-value : goal.returns-clause-value
returns-clause-value c =
    let back = ap year_start (back_y c.args.year c.requires) in
    let b = year_start_bounds c.args.year c.requires in
    let b0 = b.0 in
    let b1 = b.1 in
    let low = c.in_year.ensures.low in
    let high = c.in_year.ensures.high in
    let p : to_z w64 (of_z w64 (to_z w64 (of_z w64 c.in_year.result) *ℤ pos 86400)) ≡ c.in_year.result *ℤ pos 86400 = omega (arith, signed_arith) in
    let t : to_z w64 (of_z w64 (to_z w32 (of_z w32 c.args.self.time))) ≡ c.args.self.time = omega (arith, signed_arith) in
    let d = c.in_year.ensures.value ∙ ap (rule_day c.args.self.day) (back_y c.args.year c.requires) in
    let l = local_second_is c.args.self c.args.year in
    omega (arith, signed_arith)

pub returns-clause-low : goal.returns-clause-low
returns-clause-low c =
    let back = ap year_start (back_y c.args.year c.requires) in
    let b = year_start_bounds c.args.year c.requires in
    let b0 = b.0 in
    let b1 = b.1 in
    let low = c.in_year.ensures.low in
    let high = c.in_year.ensures.high in
    let p : to_z w64 (of_z w64 (to_z w64 (of_z w64 c.in_year.result) *ℤ pos 86400)) ≡ c.in_year.result *ℤ pos 86400 = omega (arith, signed_arith) in
    let t : to_z w64 (of_z w64 (to_z w32 (of_z w32 c.args.self.time))) ≡ c.args.self.time = omega (arith, signed_arith) in
    omega (arith, signed_arith)

pub returns-clause-high : goal.returns-clause-high
returns-clause-high c =
    let back = ap year_start (back_y c.args.year c.requires) in
    let b = year_start_bounds c.args.year c.requires in
    let b0 = b.0 in
    let b1 = b.1 in
    let low = c.in_year.ensures.low in
    let high = c.in_year.ensures.high in
    let p : to_z w64 (of_z w64 (to_z w64 (of_z w64 c.in_year.result) *ℤ pos 86400)) ≡ c.in_year.result *ℤ pos 86400 = omega (arith, signed_arith) in
    let t : to_z w64 (of_z w64 (to_z w32 (of_z w32 c.args.self.time))) ≡ c.args.self.time = omega (arith, signed_arith) in
    omega (arith, signed_arith)

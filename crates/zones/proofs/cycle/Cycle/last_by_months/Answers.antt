use Rattle.std.proofs.Common.{◌≡◌, ℤ, pos, ◌+ℤ◌, ◌-ℤ◌, ◌*ℤ◌, to_z, of_z, arith, ap, subst, ◌∙◌}
use mir.Syntax.{w64}
use Rattle.std.specs.Prelude.{IfSome}
use Rattle.calendar_values.specs.Calendar.{year_start}
use Rattle.calendar_values.specs.SignedArith.{signed_arith}
use Rattle.zones.specs.Cycles.{IsLastMoment}
use Rattle.zones.proofs.MonthsLemmas.{from_start}
use Rattle.zones.proofs.cycle.Cycle.last_by_months.Goals as goal

pub returns : goal.returns
returns c =
    let y = c.year_near-year.result in
    let yl = c.year_near-year.ensures.0 in
    let yh = c.year_near-year.ensures.1 in
    let back_y : to_z w64 (of_z w64 y) ≡ y = omega (arith, signed_arith) in
    let value = c.year_start-start.ensures.value ∙ ap year_start back_y in
    let start = c.year_start-start.result in
    let year = ap year_start back_y in
    let ef = from_start start c.args.from (c.year_start-start.ensures.low, c.year_start-start.ensures.high) c.requires.from in
    let eu = from_start start c.args.until (c.year_start-start.ensures.low, c.year_start-start.ensures.high) c.requires.until in
    let late : ℤ = year_start (to_z w64 (of_z w64 y)) *ℤ pos 86_400 +ℤ to_z w64
    (of_z w64 (to_z w64 (of_z w64 c.args.until) -ℤ to_z w64 (of_z w64 (to_z w64 (of_z w64 start) *ℤ pos 86400)))) in
    let one : year_start (to_z w64 (of_z w64 y)) *ℤ pos 86_400 +ℤ to_z w64
    (of_z w64 (to_z w64 (of_z w64 c.args.from) -ℤ to_z w64 (of_z w64 (to_z w64 (of_z w64 start) *ℤ pos 86400)))) ≡ c.args.from = omega (arith, signed_arith)
    in
    let two : year_start (to_z w64 (of_z w64 y)) *ℤ pos 86_400 +ℤ to_z w64
    (of_z w64 (to_z w64 (of_z w64 c.args.until) -ℤ to_z w64 (of_z w64 (to_z w64 (of_z w64 start) *ℤ pos 86400)))) ≡ c.args.until = omega
    (arith, signed_arith) in
    let here = subst (λ (t : ℤ). IfSome c.last_in_year.result (λ m. IsLastMoment c.args.self t late m)) one c.last_in_year.ensures in
    subst (λ (t : ℤ). IfSome c.last_in_year.result (λ m. IsLastMoment c.args.self c.args.from t m)) two here

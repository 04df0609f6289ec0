use Rattle.std.proofs.Common.{FitsSigned, w64, to_z-of_z, arith, refl}
use Rattle.calendar_values.specs.SignedArith.{signed_arith}
use Rattle.calendar_values.proofs.DurationLemmas.{FitsSigned-product}
use Rattle.calendar_values.proofs.signed_duration.SignedDuration.nanoseconds_times.Goals as goal
use mir.Syntax.{w128}

pub overflow_mul-result : goal.overflow_mul-result
overflow_mul-result c =
    let d = c.whole_nanoseconds.ensures in
    let n : FitsSigned w128 c.whole_nanoseconds.result = omega (arith, signed_arith) in
    let f : FitsSigned w64 c.args.factor = c.ranges.factor in
    let wide : FitsSigned w128 c.args.factor = omega (arith, signed_arith) in
    let product = FitsSigned-product c.whole_nanoseconds.result c.args.factor (omega (arith, signed_arith)) c.requires in
    simp to_z-of_z product

pub returns : goal.returns
returns c =
    let d = c.whole_nanoseconds.ensures in
    let n : FitsSigned w128 c.whole_nanoseconds.result = omega (arith, signed_arith) in
    let f : FitsSigned w64 c.args.factor = c.ranges.factor in
    let wide : FitsSigned w128 c.args.factor = omega (arith, signed_arith) in
    let product = FitsSigned-product c.whole_nanoseconds.result c.args.factor (omega (arith, signed_arith)) c.requires in
    simp to_z-of_z (rw d.value refl)

use Rattle.std.proofs.Common.{FitsSigned, w64, ◌≢◌, pos, int_div, to_z-of_z, arith, refl}
use Rattle.calendar_values.specs.SignedArith.{signed_arith}
use Rattle.calendar_values.proofs.DurationLemmas.{FitsSigned-quotient, HasQuotient-some, SomeDuration-same}
use Rattle.calendar_values.proofs.signed_duration.SignedDuration.over.Goals as goal
use mir.Syntax.{w128}

pub returns : goal.returns
returns c =
    let d = c.whole_nanoseconds.ensures in
    let n : FitsSigned w128 c.whole_nanoseconds.result = omega (arith, signed_arith) in
    let f : FitsSigned w64 c.args.divisor = c.ranges.divisor in
    let wide : FitsSigned w128 c.args.divisor = omega (arith, signed_arith) in
    let quotient : FitsSigned w128 (int_div c.whole_nanoseconds.result c.args.divisor) =
    FitsSigned-quotient c.whole_nanoseconds.result c.args.divisor (omega (arith, signed_arith)) in
    let same : FitsSigned w128 (int_div c.args.self c.args.divisor) = rw d.value at quotient in
    let nonzero : c.args.divisor ≢ pos 0 = grind (arith, signed_arith, to_z-of_z) in
    HasQuotient-some _ _ _ (SomeDuration-same _ _ _ c.from_whole_nanoseconds.ensures (simp to_z-of_z (rw d.value refl))) nonzero

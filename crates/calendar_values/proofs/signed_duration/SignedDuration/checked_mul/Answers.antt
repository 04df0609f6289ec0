use Rattle.std.proofs.Common.{FitsSigned, w32, w64, to_z-of_z, arith}
use Rattle.calendar_values.specs.SignedArith.{signed_arith}
use Rattle.calendar_values.proofs.signed_duration.SignedDuration.checked_mul.Goals as goal

pub returns : goal.returns
returns c =
    let f : FitsSigned w32 c.args.factor = c.ranges.factor in
    let wide : FitsSigned w64 c.args.factor = omega (arith, signed_arith) in
    simp to_z-of_z at c.times.ensures

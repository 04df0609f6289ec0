use Rattle.std.proofs.Common.{FitsSigned, w64, arith}
use Rattle.calendar_values.specs.SignedArith.{signed_arith, one_part}
use Rattle.calendar_values.proofs.signed_duration.SignedDuration.milliseconds.Goals as goal

pub overflow_cast-milliseconds : goal.overflow_cast-milliseconds
overflow_cast-milliseconds c = omega (arith, signed_arith, one_part c.args.milliseconds)

pub overflow_mul-milliseconds : goal.overflow_mul-milliseconds
overflow_mul-milliseconds c = omega (arith, signed_arith, one_part c.args.milliseconds)

pub new-requires : goal.new-requires
new-requires c = omega (arith, signed_arith, one_part c.args.milliseconds)

pub returns : goal.returns
returns c =
    let n : FitsSigned w64 c.args.milliseconds = c.ranges.milliseconds in
    let e = c.new.ensures in
    omega (arith, signed_arith, one_part c.args.milliseconds)

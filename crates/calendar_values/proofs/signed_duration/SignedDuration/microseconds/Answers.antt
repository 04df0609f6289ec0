use Rattle.std.proofs.Common.{FitsSigned, w64, arith}
use Rattle.calendar_values.specs.SignedArith.{signed_arith, one_part}
use Rattle.calendar_values.proofs.signed_duration.SignedDuration.microseconds.Goals as goal

pub overflow_cast-microseconds : goal.overflow_cast-microseconds
overflow_cast-microseconds c = omega (arith, signed_arith, one_part c.args.microseconds)

pub overflow_mul-microseconds : goal.overflow_mul-microseconds
overflow_mul-microseconds c = omega (arith, signed_arith, one_part c.args.microseconds)

pub new-requires : goal.new-requires
new-requires c = omega (arith, signed_arith, one_part c.args.microseconds)

pub returns : goal.returns
returns c =
    let n : FitsSigned w64 c.args.microseconds = c.ranges.microseconds in
    let e = c.new.ensures in
    omega (arith, signed_arith, one_part c.args.microseconds)

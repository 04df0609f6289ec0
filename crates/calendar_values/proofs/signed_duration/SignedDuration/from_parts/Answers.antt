use Rattle.std.proofs.Common.{FitsSigned, w32, w64, arith}
use Rattle.calendar_values.specs.SignedArith.{signed_arith, one_part}
use Rattle.calendar_values.proofs.signed_duration.SignedDuration.from_parts.Goals as goal

pub overflow_cast-carried : goal.overflow_cast-carried
overflow_cast-carried c = omega (arith, signed_arith, one_part c.args.nanoseconds)

pub of_one_sign-requires : goal.of_one_sign-requires
of_one_sign-requires c = omega (arith, signed_arith, one_part c.args.nanoseconds)

pub returns-in-Some : goal.returns-in-Some
returns-in-Some c =
    let s : FitsSigned w64 c.args.seconds = c.ranges.seconds in
    let n : FitsSigned w32 c.args.nanoseconds = c.ranges.nanoseconds in
    let some = c.in-Some.ensures in
    let e = c.of_one_sign.ensures in
    omega (arith, signed_arith, one_part c.args.nanoseconds)

pub returns-in-None : goal.returns-in-None
returns-in-None c =
    let s : FitsSigned w64 c.args.seconds = c.ranges.seconds in
    let n : FitsSigned w32 c.args.nanoseconds = c.ranges.nanoseconds in
    λ h. c.in-None.ensures (omega (arith, signed_arith, one_part c.args.nanoseconds, h))

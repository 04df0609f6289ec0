use Rattle.std.proofs.Common.{arith}
use Rattle.calendar_values.specs.SignedArith.{signed_casts}
use Rattle.stamp_times.specs.TimestampLemmas.{instant_of_parts-of}
use Rattle.stamp_times.proofs.timestamp.operators.TimestampSub.sub.Goals as goal

pub new-requires : goal.new-requires
new-requires c =
    let left = instant_of_parts-of c.args.self in
    let right = instant_of_parts-of c.args.other in
    omega (arith, signed_casts)

pub returns : goal.returns
returns c =
    let left = instant_of_parts-of c.args.self in
    let right = instant_of_parts-of c.args.other in
    omega (arith, signed_casts)

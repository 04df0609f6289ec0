use Rattle.std.proofs.Common.{arith}
use Rattle.calendar_values.specs.SignedArith.{signed_casts}
use Rattle.stamp_times.specs.TimestampLemmas.{instant_of_parts-of}
use Rattle.stamp_times.proofs.TimestampSumLemmas.{IsWallClock-same}
use Rattle.stamp_times.proofs.timestamp.Timestamp.checked_sub_std.Goals as goal

pub returns-in-Some : goal.returns-in-Some
returns-in-Some c =
    let here = instant_of_parts-of c.args.self in
    let seconds = c.in-Some.ensures in
    IsWallClock-same _ _ _ c.carry.ensures (omega (arith, signed_casts))

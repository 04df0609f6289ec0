use Rattle.std.proofs.Common.{arith}
use Rattle.calendar_values.specs.DurationPartLemmas.{duration_of_parts-of, IsDurationParts-of}
use Rattle.calendar_values.specs.SignedArith.{signed_casts}
use Rattle.stamp_times.specs.TimestampLemmas.{instant_of_parts-of}
use Rattle.stamp_times.proofs.TimestampSumLemmas.{IsWallClock-same}
use Rattle.stamp_times.proofs.timestamp.Timestamp.checked_add.Goals as goal

pub returns-in-None : goal.returns-in-None
returns-in-None c =
    let here = instant_of_parts-of c.args.self in
    let sum = duration_of_parts-of c.args.duration in
    let parts = IsDurationParts-of c.args.duration in
    λ within. c.in-None.ensures (omega (arith, signed_casts))

pub returns-in-Some : goal.returns-in-Some
returns-in-Some c =
    let here = instant_of_parts-of c.args.self in
    let sum = duration_of_parts-of c.args.duration in
    let seconds = c.in-Some.ensures in
    IsWallClock-same _ _ _ c.carry.ensures (omega (arith, signed_casts))

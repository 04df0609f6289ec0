use Rattle.std.proofs.Common.{arith}
use Rattle.calendar_values.specs.SignedArith.{signed_casts}
use Rattle.calendar_values.specs.WallClockLemmas.{IsDay-wall_day}
use Rattle.stamp_times.proofs.HeldInstantLemmas.{wall_day-second}
use Rattle.stamp_times.proofs.timestamp.Timestamp.day_number.Goals as goal

pub returns-clause-value : goal.returns-clause-value
returns-clause-value c =
    let day = wall_day-second c.args.self in
    let in_range = IsDay-wall_day c.args.self c.as_seconds.ensures.self_in_range in
    omega (arith, signed_casts)

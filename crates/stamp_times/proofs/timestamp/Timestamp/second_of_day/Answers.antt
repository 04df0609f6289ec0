use Rattle.std.proofs.Common.{◌≡◌, arith, rules, to_z, of_z, w64}
use Rattle.calendar_values.specs.SignedArith.{signed_arith}
use Rattle.stamp_times.proofs.HeldInstantLemmas.{wall_time-second}
use Rattle.stamp_times.proofs.timestamp.Timestamp.second_of_day.Goals as goal

pub returns-clause-value : goal.returns-clause-value
returns-clause-value c =
    let seconds : to_z w64 (of_z w64 c.as_seconds.result) ≡ c.as_seconds.result = search rules in
    let same = rw (seconds, c.as_seconds.ensures.value, wall_time-second c.args.self) at c.day_and_second.ensures.second in
    omega (arith, signed_arith, same)

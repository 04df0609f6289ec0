use Rattle.std.proofs.Common.{None, Some, to_z-of_z}
use Rattle.plain_times.specs.SumLemmas.{wall_clock_if_any-SomeIff}
use Rattle.stamps.proofs.instants.instant_if_any.Goals as goal

pub returns-in-Ok : goal.returns-in-Ok
returns-in-Ok c =
    let value = simp (to_z-of_z, c.ranges.nanos) at c.in-Ok.ensures.value in wall_clock_if_any-SomeIff (Some c.in-Ok.instant) c.args.nanos value

pub returns-in-Err : goal.returns-in-Err
returns-in-Err c = let value = simp (to_z-of_z, c.ranges.nanos) at c.in-Err.ensures.value in wall_clock_if_any-SomeIff None c.args.nanos value

use Rattle.std.proofs.Common.{arith}
use Rattle.calendar_values.specs.SignedArith.{signed_arith}
use Rattle.calendar_values.specs.WallClock.{wall_time}
use Rattle.format_descriptions.proofs.unix.split_seconds.Goals as goal

pub returns-clause-nanosecond : goal.returns-clause-nanosecond
unfolding wall_time
returns-clause-nanosecond c = omega (arith, signed_arith)

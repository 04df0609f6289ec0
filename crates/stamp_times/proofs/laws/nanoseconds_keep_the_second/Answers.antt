use Rattle.std.proofs.Common.{arith}
use Rattle.calendar_values.specs.SignedArith.{signed_arith}
use Rattle.calendar_values.specs.WallClock.{wall_day, wall_time}
use Rattle.plain_times.specs.Replacements.{with_time}
use Rattle.stamp_times.proofs.laws.nanoseconds_keep_the_second.Goals as goal

pub returns : goal.returns
unfolding with_time wall_day wall_time
returns c = λ i n. omega (arith, signed_arith)

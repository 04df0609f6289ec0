use Rattle.std.proofs.Common.{arith}
use Rattle.calendar_values.specs.SignedArith.{signed_arith}
use Rattle.calendar_values.specs.WallClock.{wall_day}
use Rattle.calendar_values.specs.WallClockLemmas.{wall_clock-parts, IsClock-wall_time}
use Rattle.offset_times.specs.Local.{Local, IsLocal, instant_of}
use Rattle.plain_times.specs.PackedLemmas.{IsNearRange, hashed_by_wall_clock}
use Rattle.offset_times.proofs.laws.compared_by_instant.Goals as goal

-- an offset takes an instant little out of the range
near_range : (at : Local) → IsLocal at → IsNearRange (wall_day (instant_of at))
unfolding instant_of
near_range at h = omega (arith, signed_arith, wall_clock-parts (instant_of at), IsClock-wall_time (instant_of at))

pub returns-clause-told_apart : goal.returns-clause-told_apart
returns-clause-told_apart c x y h k = (hashed_by_wall_clock (instant_of x) (instant_of y) (near_range x h) (near_range y k)).0

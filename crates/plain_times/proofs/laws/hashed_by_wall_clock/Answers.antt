use Rattle.std.proofs.Common.{arith}
use Rattle.std.proofs.lemmas.Int.{ints}
use Rattle.calendar_values.specs.WallClockLemmas.{IsDay-wall_day}
use Rattle.plain_times.specs.PackedLemmas.{hashed_by_wall_clock}
use Rattle.plain_times.proofs.laws.hashed_by_wall_clock.Goals as goal

pub returns : goal.returns
returns c x y h k =
    let first = IsDay-wall_day x h in
    let second = IsDay-wall_day y k in
    hashed_by_wall_clock x y (omega (arith, ints)) (omega (arith, ints))

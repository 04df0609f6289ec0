use Rattle.std.proofs.Common.{◌≡◌, ◌*ℤ◌, FitsSigned, w64, to_z-of_z, rules}
use Rattle.calendar_values.proofs.DurationLemmas.{SomeDuration-same}
use Rattle.calendar_values.proofs.signed_duration.SignedDuration.times.Goals as goal
use mir.Syntax.{w128}

pub returns : goal.returns
returns c =
    let f : FitsSigned w64 c.args.factor = c.ranges.factor in
    let n : FitsSigned w128 c.nanoseconds_times.result = search rules in
    let product : c.nanoseconds_times.result ≡ c.args.self *ℤ c.args.factor = simp to_z-of_z at c.nanoseconds_times.ensures in
    SomeDuration-same _ _ _ c.from_whole_nanoseconds.ensures (simp to_z-of_z product)

use Rattle.std.proofs.Common.{arith}
use Rattle.calendar_values.specs.SignedArith.{signed_arith}
use Rattle.calendar_values.proofs.DurationLemmas.{IsNearestDuration-same}
use Rattle.calendar_values.proofs.signed_duration.SignedDuration.saturating_sub.Goals as goal

pub returns-in-None : goal.returns-in-None
returns-in-None c =
    let self = c.whole_nanoseconds.ensures in
    let other = c.whole_nanoseconds-in-None.ensures in
    IsNearestDuration-same _ _ _ c.nearest.ensures (omega (arith, signed_arith))

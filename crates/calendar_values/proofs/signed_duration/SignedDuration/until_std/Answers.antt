use Rattle.std.proofs.Common.{arith}
use Rattle.calendar_values.specs.SignedArith.{signed_casts}
use Rattle.calendar_values.proofs.DurationLemmas.{SomeDuration-same}
use Rattle.calendar_values.proofs.signed_duration.SignedDuration.until_std.Goals as goal

pub returns : goal.returns
returns c =
    let self = c.whole_nanoseconds.ensures in
    let other = c.as_nanos.ensures in
    SomeDuration-same _ _ _ c.from_whole_nanoseconds.ensures (omega (arith, signed_casts))

use Rattle.std.proofs.Common.{FitsSigned, w64, arith, rules}
use Rattle.calendar_values.specs.SignedArith.{signed_arith}
use Rattle.calendar_values.proofs.DurationLemmas.{whole_microseconds_of-parts}
use Rattle.calendar_values.proofs.signed_duration.SignedDuration.whole_microseconds.Goals as goal

pub returns-clause-value : goal.returns-clause-value
returns-clause-value c =
    let seconds : FitsSigned w64 c.whole_seconds.result = search rules in
    let rest = c.subsec_microseconds.ensures.in_range in
    rw (whole_microseconds_of-parts c.args.self, ← c.whole_seconds.ensures.value, ← c.subsec_microseconds.ensures.value) (omega (arith, signed_arith))

use Rattle.std.proofs.Common.{FitsSigned, w64, arith, rules}
use Rattle.calendar_values.specs.DurationPartLemmas.{duration_signs}
use Rattle.calendar_values.specs.SignedArith.{signed_arith}
use Rattle.calendar_values.proofs.DurationLemmas.{SomeDuration-same}
use Rattle.calendar_values.proofs.signed_duration.SignedDuration.checked_neg.Goals as goal

pub returns-in-Some : goal.returns-in-Some
returns-in-Some c =
    let s : FitsSigned w64 c.self.inside.seconds = search rules in
    let some = c.in-Some.ensures in
    let a = duration_signs _ _ c.self.invariant in
    SomeDuration-same _ _ _ c.from_parts.ensures (omega (arith, signed_arith, c.self.view_is))

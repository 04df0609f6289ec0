use Rattle.std.proofs.Common.{FitsSigned, w64, arith, rules}
use Rattle.calendar_values.specs.DurationPartLemmas.{duration_signs}
use Rattle.calendar_values.specs.SignedArith.{signed_arith}
use Rattle.calendar_values.proofs.DurationLemmas.{SomeDuration-same}
use Rattle.calendar_values.proofs.signed_duration.SignedDuration.checked_add.Goals as goal

pub returns-in-Some : goal.returns-in-Some
returns-in-Some c =
    let s : FitsSigned w64 c.self.inside.seconds = search rules in
    let t : FitsSigned w64 c.other.inside.seconds = search rules in
    let some = c.in-Some.ensures in
    let a = duration_signs _ _ c.self.invariant in
    let b = duration_signs _ _ c.other.invariant in
    SomeDuration-same _ _ _ c.from_parts.ensures (omega (arith, signed_arith, c.self.view_is, c.other.view_is))

pub returns-in-None : goal.returns-in-None
returns-in-None c = λ fits.
    let s : FitsSigned w64 c.self.inside.seconds = search rules in
    let t : FitsSigned w64 c.other.inside.seconds = search rules in
    let a = duration_signs _ _ c.self.invariant in
    let b = duration_signs _ _ c.other.invariant in
    c.in-None.ensures (omega (arith, signed_arith, c.self.view_is, c.other.view_is, fits))

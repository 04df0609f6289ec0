use Rattle.std.proofs.Common.{FitsSigned, w64, arith, rules}
use Rattle.calendar_values.specs.DurationPartLemmas.{duration_signs}
use Rattle.calendar_values.specs.SignedArith.{signed_arith}
use Rattle.calendar_values.proofs.DurationLemmas.{SomeDuration-same}
use Rattle.calendar_values.proofs.signed_duration.SignedDuration.checked_sub.Goals as goal

pub overflow_sub-self-inside : goal.overflow_sub-self-inside
overflow_sub-self-inside c =
    omega (arith, signed_arith, duration_signs _ _ c.self.invariant, duration_signs _ _ c.other.invariant)

pub overflow_sub-whole_nanoseconds : goal.overflow_sub-whole_nanoseconds
overflow_sub-whole_nanoseconds c =
    let self = c.whole_nanoseconds.ensures in
    let other = c.whole_nanoseconds-in-None.ensures in
    omega (arith, signed_arith)

pub returns-in-Some : goal.returns-in-Some
returns-in-Some c =
    let s : FitsSigned w64 c.self.inside.seconds = search rules in
    let t : FitsSigned w64 c.other.inside.seconds = search rules in
    let some = c.in-Some.ensures in
    let a = duration_signs _ _ c.self.invariant in
    let b = duration_signs _ _ c.other.invariant in
    SomeDuration-same _ _ _ c.from_parts.ensures (omega (arith, signed_arith, c.self.view_is, c.other.view_is))

pub returns-in-None : goal.returns-in-None
returns-in-None c =
    let self = c.whole_nanoseconds.ensures in
    let other = c.whole_nanoseconds-in-None.ensures in
    SomeDuration-same _ _ _ c.from_whole_nanoseconds.ensures (omega (arith, signed_arith))

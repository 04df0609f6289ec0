use Rattle.std.proofs.Common.{arith, rules, ap, ◌≡◌, ◌∙◌, ℤ, pos, ◌*ℤ◌, ◌+ℤ◌, FitsSigned, w32, w64, Ok}
use Rattle.calendar_values.specs.SignedArith.{signed_arith, one_part}
use Rattle.muxandu_c.proofs.CarriedDurationLemmas.{fits-some, fits-none, duration_value-outside, duration_value-inside}
use Rattle.muxandu_c.proofs.parts.carried_duration.Goals as goal

pub overflow_cast-carried : goal.overflow_cast-carried
overflow_cast-carried c = omega (arith, signed_arith, one_part c.args.duration.nanoseconds)

pub returns-then-is_none : goal.returns-then-is_none
returns-then-is_none c =
    let s : FitsSigned w64 c.args.duration.seconds = search rules in
    let n : FitsSigned w32 c.args.duration.nanoseconds = search rules in
    let outside = fits-none c.checked_add.result _ _ c.checked_add.ensures c.if-is_none.ensures in
    duration_value-outside c.args.duration (λ inside. outside (omega (arith, signed_arith, one_part c.args.duration.nanoseconds, inside.0, inside.1)))

pub new-requires : goal.new-requires
new-requires c =
    let inside = fits-some c.checked_add.result _ _ c.checked_add.ensures c.if-is_none.ensures in
    omega (arith, signed_arith, one_part c.args.duration.nanoseconds)

pub returns : goal.returns
returns c =
    let d = c.args.duration in
    let s : FitsSigned w64 d.seconds = search rules in
    let n : FitsSigned w32 d.nanoseconds = search rules in
    let inside = fits-some c.checked_add.result _ _ c.checked_add.ensures c.if-is_none.ensures in
    let made : c.new.result ≡ (d.seconds *ℤ pos 1_000_000_000) +ℤ d.nanoseconds = omega (arith, signed_arith) in
    ap (λ (z : ℤ). Ok z) made ∙ duration_value-inside d (omega (arith, signed_arith, one_part d.nanoseconds))

use Rattle.std.proofs.Common.{◌≡◌, FitsSigned, w64, to_z-of_z, sym, arith, rules}
use Rattle.calendar_values.specs.Durations.{subsec_nanoseconds_of}
use Rattle.calendar_values.specs.DurationPartLemmas.{whole_seconds_of-parts, subsec_nanoseconds_of-parts}
use Rattle.calendar_values.specs.SignedArith.{signed_arith}
use Rattle.calendar_values.proofs.signed_duration.SignedDuration.whole_seconds.Goals as goal

nanoseconds : (c : goal.After-self) → subsec_nanoseconds_of c.args.self ≡ c.self.inside.nanoseconds
nanoseconds c = rw (← c.self.view_is) (subsec_nanoseconds_of-parts _ _ c.self.invariant)

pub returns-clause-value : goal.returns-clause-value
returns-clause-value c =
    let fits : FitsSigned w64 c.self.inside.seconds = search rules in
    simp to_z-of_z (rw (← c.self.view_is) (sym (whole_seconds_of-parts _ _ c.self.invariant)))

pub returns-clause-self_in_range : goal.returns-clause-self_in_range
returns-clause-self_in_range c =
    let fits : FitsSigned w64 c.self.inside.seconds = search rules in
    (omega (arith, signed_arith, c.self.view_is, c.self.invariant.in_range), omega (arith, signed_arith, c.self.view_is, c.self.invariant.in_range))

pub returns-clause-one_sign : goal.returns-clause-one_sign
returns-clause-one_sign c =
    let fits : FitsSigned w64 c.self.inside.seconds = search rules in
    simp to_z-of_z (rw (nanoseconds c) c.self.invariant)

pub returns-clause-parts : goal.returns-clause-parts
returns-clause-parts c =
    let fits : FitsSigned w64 c.self.inside.seconds = search rules in
    simp to_z-of_z (rw (nanoseconds c) c.self.view_is)

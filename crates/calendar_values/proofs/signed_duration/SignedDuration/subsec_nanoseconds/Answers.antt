use Rattle.std.proofs.Common.{◌≡◌, FitsSigned, w32, to_z-of_z, sym, rules}
use Rattle.calendar_values.specs.Durations.{whole_seconds_of}
use Rattle.calendar_values.specs.DurationPartLemmas.{whole_seconds_of-parts, subsec_nanoseconds_of-parts}
use Rattle.calendar_values.proofs.signed_duration.SignedDuration.subsec_nanoseconds.Goals as goal

seconds : (c : goal.After-self) → whole_seconds_of c.args.self ≡ c.self.inside.seconds
seconds c = rw (← c.self.view_is) (whole_seconds_of-parts _ _ c.self.invariant)

pub returns-clause-value : goal.returns-clause-value
returns-clause-value c =
    let fits : FitsSigned w32 c.self.inside.nanoseconds = search rules in
    simp to_z-of_z (rw (← c.self.view_is) (sym (subsec_nanoseconds_of-parts _ _ c.self.invariant)))

pub returns-clause-one_sign : goal.returns-clause-one_sign
returns-clause-one_sign c =
    let fits : FitsSigned w32 c.self.inside.nanoseconds = search rules in
    simp to_z-of_z (rw (seconds c) c.self.invariant)

pub returns-clause-parts : goal.returns-clause-parts
returns-clause-parts c =
    let fits : FitsSigned w32 c.self.inside.nanoseconds = search rules in
    simp to_z-of_z (rw (seconds c) c.self.view_is)

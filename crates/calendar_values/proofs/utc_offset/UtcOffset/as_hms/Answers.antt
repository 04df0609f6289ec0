use Rattle.std.proofs.Common.{FitsSigned, w8, to_z-of_z, sym, rules}
use Rattle.calendar_values.specs.OffsetPartLemmas.{offset_hours_of-parts, offset_minutes_of-parts, offset_seconds_of-parts}
use Rattle.calendar_values.proofs.utc_offset.UtcOffset.as_hms.Goals as goal

pub returns-clause-hours : goal.returns-clause-hours
returns-clause-hours c =
    let fits : FitsSigned w8 c.self.inside.hours = search rules in
    simp to_z-of_z (rw (← c.self.view_is) (sym (offset_hours_of-parts _ _ _ c.self.invariant)))

pub returns-clause-minutes : goal.returns-clause-minutes
returns-clause-minutes c =
    let fits : FitsSigned w8 c.self.inside.minutes = search rules in
    simp to_z-of_z (rw (← c.self.view_is) (sym (offset_minutes_of-parts _ _ _ c.self.invariant)))

pub returns-clause-seconds : goal.returns-clause-seconds
returns-clause-seconds c =
    let fits : FitsSigned w8 c.self.inside.seconds = search rules in
    simp to_z-of_z (rw (← c.self.view_is) (sym (offset_seconds_of-parts _ _ _ c.self.invariant)))

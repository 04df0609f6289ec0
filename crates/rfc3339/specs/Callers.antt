-- The rule sets that a caller of this crate lists, once, at its root: all sets of callers, with those of the crates below.
use Rattle.rfc3339.specs.ReadingLemmas.{readings}
use Rattle.stamp_times.specs.Callers as stamp_times

pub ruleset callers = (readings, stamp_times.callers)

-- The rule sets that a caller of this crate lists, once, at its root: all sets of callers, with those of the crates below.
use Rattle.rfc3339.specs.Callers as rfc3339

pub ruleset callers = (rfc3339.callers)

-- The rule sets for callers of this crate, and of the crates that it uses. A caller lists them once, at its root.
use Rattle.plain_times.specs.Callers as plain_times

pub ruleset callers = (plain_times.callers)

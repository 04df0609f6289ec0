-- The rule sets for callers of this crate, and of the crates that it uses. A caller lists them once, at its root.
use Rattle.offset_times.specs.Callers as offset_times
use Rattle.stamp_times.specs.LogLemmas.{without_repeats}

pub ruleset callers = (offset_times.callers, without_repeats)

-- The rule sets for callers of `zoned_times`, for a `using(..)` at the head of a crate.
use Rattle.offset_times.specs.Callers as offset_times

pub ruleset callers = (offset_times.callers)

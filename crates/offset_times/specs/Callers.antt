-- The rule sets for callers of this crate, and of the crates that it uses. A caller lists them once, at its root.
use Rattle.offset_times.specs.InstantLemmas.{instants, two_offsets, same_day}
use Rattle.offset_times.specs.InstantLemmas.{shown_at-instant_of, local_at-instant_of}
use Rattle.utc_times.specs.Callers as utc_times

pub ruleset callers = (instants, local_at-instant_of, same_day, shown_at-instant_of, two_offsets, utc_times.callers)

-- The rule sets that a caller of this crate lists, once, at its root: all sets of callers, with those of the crates below.
use Rattle.local_texts.specs.LocalCallerLemmas.{accepted_texts, left_of_days, shown_firsts}
use Rattle.rfc3339.specs.Callers as rfc3339

pub ruleset callers = (accepted_texts, left_of_days, rfc3339.callers, shown_firsts)

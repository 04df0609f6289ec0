-- The rule sets for callers of this crate. A caller lists them once, at its root.
use Rattle.line_devices.specs.TallyCallerLemmas.{tallies}

pub ruleset callers = (tallies)

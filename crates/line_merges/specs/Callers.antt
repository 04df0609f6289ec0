-- The rule sets for callers of this crate, and of the crate that it uses. A caller lists them once, at its root.
use Rattle.line_devices.specs.Callers as line_devices
use Rattle.line_merges.specs.PlaceLemmas.{places}

pub ruleset callers = (line_devices.callers, places)

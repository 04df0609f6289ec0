-- The rule sets for callers of this crate, and of the crates that it uses. A caller lists them once, at its root.
use Rattle.format_descriptions.specs.Callers as format_descriptions
use Rattle.line_devices.specs.Callers as line_devices
use Rattle.log_forms.specs.HeadLemmas.{heads}

pub ruleset callers = (format_descriptions.callers, heads, line_devices.callers)

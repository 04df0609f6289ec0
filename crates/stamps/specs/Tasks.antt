-- Tasks that say something of lines.
use Rattle.std.specs.Prelude.{Bool, true, false}
use Rattle.stamps.specs.declared.task.Action.{Action}
use Rattle.stamps.specs.declared.task.Action.TheVariants.{Write, Check, CheckAll, Gaps, Since, Until, Between}

-- whether the task writes notes on lines
abbrev pub tells : Action → Bool
tells (Write style is_strict) = false
tells (Check is_strict) = false
tells (CheckAll is_strict) = true
tells (Gaps limit is_strict) = true
tells (Since bound) = false
tells (Until bound) = false
tells (Between from to) = false

-- whether the task checks lines, and so tells itself of those without a stamp
abbrev pub checks : Action → Bool
checks (Write style is_strict) = false
checks (Check is_strict) = true
checks (CheckAll is_strict) = true
checks (Gaps limit is_strict) = false
checks (Since bound) = false
checks (Until bound) = false
checks (Between from to) = false

-- whether a finding in one file ends the work on all: its line would be missing in the output
abbrev pub ends_at_finding : Action → Bool
ends_at_finding (Write style is_strict) = is_strict
ends_at_finding (Check is_strict) = false
ends_at_finding (CheckAll is_strict) = false
ends_at_finding (Gaps limit is_strict) = false
ends_at_finding (Since bound) = false
ends_at_finding (Until bound) = false
ends_at_finding (Between from to) = false

use Rattle.std.proofs.Common.{ℕ, ◌+◌, ◌<◌, pos}
use Rattle.zones.specs.Cycles.{IsApart}
use Rattle.zones.proofs.cycle.Cycle.runs_forward.Given as goal

abbrev pub invariant-loop-i : goal.invariant-loop-i
invariant-loop-i l = (k : ℕ) → k < l.i → IsApart l.self (pos (4000 + k))

use Rattle.std.proofs.Common.{ℕ, ◌+◌, ◌*◌, ◌<◌, pos, ◌+ℤ◌}
use Rattle.zones.specs.Cycles.{Meets}
use Rattle.zones.proofs.cycle.Cycle.meets_in_all_years.Given as goal

abbrev pub invariant-loop-i : goal.invariant-loop-i
invariant-loop-i l = (k : ℕ) → k < l.i → Meets l.self (pos (4000 + 2 * k) +ℤ l.number)

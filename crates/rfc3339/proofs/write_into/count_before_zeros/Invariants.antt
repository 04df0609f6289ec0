use Rattle.std.proofs.Common.{◌≤◌}
use Rattle.rfc3339.proofs.ZeroLemmas.{AreLeft}
use Rattle.rfc3339.proofs.write_into.count_before_zeros.Given as goal

abbrev pub invariant-loop-count : goal.invariant-loop-count
invariant-loop-count l = record {
  left : AreLeft l.nanosecond l.rest l.count;
  at_least : 1 ≤ l.count;
  at_most : l.count ≤ 9;
}

abbrev pub decreases-loop-count : goal.decreases-loop-count
decreases-loop-count l = l.count

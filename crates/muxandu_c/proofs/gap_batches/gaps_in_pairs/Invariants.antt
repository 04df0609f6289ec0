use Rattle.std.proofs.Common.{◌≡◌, ◌≤◌, count_by, length, take}
use Rattle.std.specs.List.{zip}
use Rattle.muxandu_c.specs.Gaps.{has_gap}
use Rattle.muxandu_c.proofs.gap_batches.gaps_in_pairs.Given as goal

-- the pairs with a gap so far
abbrev pub invariant-loop-k : goal.invariant-loop-k
invariant-loop-k g l = record {
  gaps : l.gaps ≡ count_by (has_gap (g.B.Row.gap_test)) (take l.k (zip l.firsts l.seconds));
  at_most : l.gaps ≤ l.k;
  pairs : length l.firsts ≤ length l.seconds;
}

use Rattle.std.proofs.Common.{◌≡◌, ◌≤◌, count_by, take}
use Rattle.muxandu_c.specs.Gaps.{is_gap}
use Rattle.muxandu_c.proofs.gap_batches.gaps_in.Given as goal

-- the gaps so far
abbrev pub invariant-loop-row : goal.invariant-loop-row
invariant-loop-row l = record {
  gaps : l.gaps ≡ count_by is_gap (take l.row-index l.moments);
  at_most : l.gaps ≤ l.row-index;
}

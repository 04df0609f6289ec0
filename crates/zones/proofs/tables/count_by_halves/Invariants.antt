use Rattle.std.proofs.Common.{◌-◌, ◌≤◌, ◌<◌, length, ℕ, ◌≤ℤ◌, ◌<ℤ◌}
use Rattle.zones.specs.Tables.{row_at}
use Rattle.zones.proofs.tables.count_by_halves.Given as goal

abbrev pub invariant-loop-low : goal.invariant-loop-low
invariant-loop-low l = record {
  ordered : l.low ≤ l.high;
  bounded : l.high ≤ length l.rows;
  passed : (k : ℕ) → k < l.low → (row_at l.rows k).second ≤ℤ l.second;
  ahead : (k : ℕ) → l.high ≤ k → k < length l.rows → l.second <ℤ (row_at l.rows k).second;
}

abbrev pub decreases-loop-low : goal.decreases-loop-low
decreases-loop-low l = l.high - l.low

use Rattle.std.proofs.Common.{◌-◌, ◌≤◌, ◌<◌, length, ℕ, ◌≤ℤ◌, ◌<ℤ◌}
use Rattle.zones.specs.Tables.{row_at, row_start}
use Rattle.zones.proofs.tables.start_count_by_halves.Given as goal

abbrev pub invariant-loop-low : goal.invariant-loop-low
invariant-loop-low l = record {
  ordered : l.low ≤ l.high;
  bounded : l.high ≤ length l.rows;
  passed : (k : ℕ) → k < l.low → row_start (row_at l.rows k) ≤ℤ l.local;
  ahead : (k : ℕ) → l.high ≤ k → k < length l.rows → l.local <ℤ row_start (row_at l.rows k);
}

abbrev pub decreases-loop-low : goal.decreases-loop-low
decreases-loop-low l = l.high - l.low

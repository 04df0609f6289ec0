use Rattle.std.proofs.Common.{length, ℕ, ◌-◌, ◌<◌, ◌≤◌}
use Rattle.zones.specs.Tables.{Follows}
use Rattle.zones.proofs.tables.rows_in_order.Given as goal

abbrev pub invariant-rows : goal.invariant-rows
invariant-rows l = record {
  bound : l.count ≤ length l.rows;
  go_on : (k : ℕ) → k < l.count → Follows l.first l.rows k;
}

abbrev pub decreases-rows : goal.decreases-rows
decreases-rows l = length l.rows - l.count

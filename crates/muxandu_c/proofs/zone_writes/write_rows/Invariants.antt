use Rattle.std.proofs.Common.{◌≡◌, ◌<◌, ℕ, length, drop}
use Rattle.zones.specs.Tables.{row_at}
use Rattle.muxandu_c.specs.ZoneNumbers.{IsTransitionOf, numbers_at}
use Rattle.muxandu_c.proofs.zone_writes.write_rows.Given as goal

-- the numbers so far are those of the rows, and what is behind them is as it was
abbrev pub invariant-rows : goal.invariant-rows
invariant-rows l = record {
  rows : (j : ℕ) → j < l.i → IsTransitionOf (numbers_at l.table j) (row_at l.rows j);
  behind : drop l.i l.table ≡ drop l.i l.fn.table;
  same : length l.table ≡ length l.fn.table;
}

use Rattle.std.proofs.Common.{◌≡◌, ◌<◌, ℕ, length}
use Rattle.zones.specs.Tables.{row_at}
use Rattle.muxandu_c.specs.ZoneNumbers.{IsTransitionOf, numbers_at}
use Rattle.muxandu_c.proofs.zone_numbers.read_table.Given as goal

-- the rows so far are the transitions of the table
abbrev pub invariant-rows : goal.invariant-rows
invariant-rows l = record {
  rows : (j : ℕ) → j < l.i → IsTransitionOf (numbers_at l.table j) (row_at l.room j);
  same : length l.room ≡ length l.fn.room;
}

use Rattle.std.proofs.Common.{◌≡◌, ◌<◌, ℕ, length}
use Rattle.zones.specs.Tables.{row_at}
use Rattle.zone_files.specs.Kinds.{IsKindOf, IsRow, kind_before}
use Rattle.zone_files.proofs.zone_file.ZoneFile.all_rows.Given as goal

-- the rows so far are transitions of the file, and no others
abbrev pub invariant-each : goal.invariant-each
invariant-each l = record {
  rows : (j : ℕ) → j < l.i → IsRow l.self j (row_at l.rows.items j);
  before : IsKindOf l.self.block (kind_before l.self.block.indexes l.i) l.before;
  count : length l.rows.items ≡ l.i;
}

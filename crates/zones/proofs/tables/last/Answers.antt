use Rattle.std.proofs.Common.{◌≡◌, ℤ, FitsSigned, to_z, of_z, arith, ap, ◌∙◌}
use mir.Syntax.{w64}
use Rattle.calendar_values.specs.SignedArith.{signed_arith}
use Rattle.zones.specs.Clocks.{IsPlace}
use Rattle.zones.specs.Tables.{count_at, table_second, InTable}
use Rattle.zones.proofs.TableLemmas.{place_of_count, last_row_by}
use Rattle.zones.proofs.tables.last.Goals as goal

back : (z : ℤ) → FitsSigned w64 z → to_z w64 (of_z w64 z) ≡ z
back z h = omega (arith, signed_arith)

pub returns : goal.returns
returns c =
    let rows = c.args.rows.now in
    let e = c.count_at.ensures.value ∙ ap (count_at rows) (back c.args.second c.ranges.second) in
    let place : IsPlace (InTable rows) (table_second rows) c.args.second c.count_at.result = rw e (place_of_count rows c.args.second) in
    last_row_by c.args.first rows c.requires (table_second rows) c.args.second c.count_at.result c.count_at.ensures.bound place c.row_before.result
    c.row_before.ensures

use Rattle.std.proofs.Common.{◌≡◌, ℤ, FitsSigned, to_z, of_z, arith, ap, ◌∙◌}
use mir.Syntax.{w64}
use Rattle.calendar_values.specs.SignedArith.{signed_arith}
use Rattle.zones.specs.Clocks.{IsPlace, start}
use Rattle.zones.specs.Tables.{start_count_at, table_second, offset_after, InTable}
use Rattle.zones.proofs.TableLemmas.{place_of_start_count, last_row_by}
use Rattle.zones.proofs.tables.last_started.Goals as goal

back : (z : ℤ) → FitsSigned w64 z → to_z w64 (of_z w64 z) ≡ z
back z h = omega (arith, signed_arith)

pub returns : goal.returns
returns c =
    let rows = c.args.rows.now in
    let e = c.start_count_at.ensures.value ∙ ap (start_count_at rows) (back c.args.local c.ranges.local) in
    let place : IsPlace (InTable rows) (start (table_second rows) (offset_after c.args.first rows)) c.args.local c.start_count_at.result =
    rw e (place_of_start_count c.args.first rows c.requires c.args.local) in
    last_row_by c.args.first rows c.requires (start (table_second rows) (offset_after c.args.first rows)) c.args.local c.start_count_at.result
    c.start_count_at.ensures.bound place c.row_before.result c.row_before.ensures

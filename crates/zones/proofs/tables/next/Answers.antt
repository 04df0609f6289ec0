use Rattle.std.proofs.Common.{◌≡◌, ◌<◌, ℤ, length, FitsSigned, to_z, of_z, arith, refl, sym, ap, ◌∙◌}
use Rattle.std.proofs.lemmas.List.{get_or_read_under}
use mir.Syntax.{w64}
use Rattle.calendar_values.specs.SignedArith.{signed_arith}
use Rattle.zones.specs.Clocks.{IsPlace}
use Rattle.zones.specs.Tables.{row_at, no_row, count_at, table_second, InTable}
use Rattle.zones.proofs.TableLemmas.{place_of_count, row_is}
use Rattle.zones.proofs.tables.next.Goals as goal

back : (z : ℤ) → FitsSigned w64 z → to_z w64 (of_z w64 z) ≡ z
back z h = omega (arith, signed_arith)

pub returns-then-count-rows : goal.returns-then-count-rows
returns-then-count-rows c =
    let rows = c.args.rows.now in
    let n = c.count_at-count.result in
    let e = c.count_at-count.ensures.value ∙ ap (count_at rows) (back c.args.second c.ranges.second) in
    let place : IsPlace (InTable rows) (table_second rows) c.args.second n = rw e (place_of_count rows c.args.second) in
    let inside : n < length rows = omega arith in
    let is : row_at rows n ≡ c.index-rows-count.result = sym
    (get_or_read_under rows n (length rows) c.index-rows-count.result no_row c.index-rows-count.is inside refl) in
    (n, place, inside, rw is at (row_is c.args.first rows c.requires n inside))

pub returns-else-count-rows : goal.returns-else-count-rows
returns-else-count-rows c =
    let rows = c.args.rows.now in
    let n = c.count_at-count.result in
    let e = c.count_at-count.ensures.value ∙ ap (count_at rows) (back c.args.second c.ranges.second) in
    let place : IsPlace (InTable rows) (table_second rows) c.args.second n = rw e (place_of_count rows c.args.second) in
    (n, place, λ h. omega arith)

use Rattle.std.proofs.Common.{◌≡◌, ℤ, FitsSigned, to_z, of_z, arith, ap, ◌∙◌}
use mir.Syntax.{w64}
use Rattle.calendar_values.specs.SignedArith.{signed_arith}
use Rattle.zones.specs.Tables.{count_at, type_after}
use Rattle.zones.proofs.TableLemmas.{place_of_count}
use Rattle.zones.proofs.tables.type_at.Goals as goal

back : (z : ℤ) → FitsSigned w64 z → to_z w64 (of_z w64 z) ≡ z
back z h = omega (arith, signed_arith)

pub returns : goal.returns
returns c =
    let rows = c.args.rows.now in
    let e = c.count_at.ensures.value ∙ ap (count_at rows) (back c.args.second c.ranges.second) in
    (count_at rows c.args.second, place_of_count rows c.args.second, c.type_after.ensures ∙ ap (type_after c.args.first rows) e)

use Rattle.std.proofs.Common.{rules, refl, ◌≡◌, ◌≤◌, ◌∙◌, ◌<◌, length, arith}
use Rattle.std.proofs.lemmas.List.{length-set}
use Rattle.muxandu_c.proofs.ZoneNumberLemmas.{row_more, front_rows}
use Rattle.muxandu_c.proofs.zone_numbers.read_table.Goals as goal

pub rows-preserved : goal.rows-preserved
rows-preserved c =
    let low : c.rows.i < length c.rows.room = omega (arith, c.rows-test.true, c.if-count-gt-MUXANDU_ZONE_ROOM.false, c.requires, c.rows.invariant.same) in
    record {
      rows = row_more c.args.table.now c.rows.room c.rows.i c.in-Some.row low c.rows.invariant.rows c.in-Some.ensures.some;
      same = length-set c.rows.room c.rows.i c.in-Some.row ∙ c.rows.invariant.same;
    }

pub returns-clause-rows : goal.returns-clause-rows
returns-clause-rows c =
    let end : length c.args.table.now ≡ c.rows.i = search rules in
    let le : length c.args.table.now ≤ length c.rows.room = search rules in
    front_rows c.args.table.now c.rows.room (length c.args.table.now) c.rows.i refl end le c.rows.invariant.rows

use Rattle.std.proofs.Common.{◌∙◌, ◌<◌, length, arith}
use Rattle.std.proofs.lemmas.List.{length-set}
use Rattle.zone_files.proofs.ZoneLemmas.{kind_next, row_more}
use Rattle.zone_files.proofs.zone_file.ZoneFile.write_rows.Goals as goal

pub rows-preserved : goal.rows-preserved
rows-preserved c =
    let low : c.rows.i < length c.rows.room = omega (arith, c.rows-test.true, c.transitions-count.ensures, c.requires, c.rows.invariant.same) in
    record {
      rows = row_more c.args.self.now c.rows.room c.rows.i c.in-Some.row low c.rows.invariant.rows c.in-Some.ensures.some;
      before = kind_next c.args.self.now.block c.rows.i c.in-Some.row.after c.in-Some.ensures.some.after;
      same = length-set c.rows.room c.rows.i c.in-Some.row ∙ c.rows.invariant.same;
    }

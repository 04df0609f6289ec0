use Rattle.std.proofs.Common.{◌≡◌, sym, subst, ℕ, ◌+◌, ◌<◌, arith, List, [], ◌∷◌, ◌++◌}
use Rattle.zones.specs.Tables.{row_at}
use Rattle.zones.specs.declared.transition.Transition.{Transition}
use Rattle.zone_files.specs.Kinds.{IsRow}
use Rattle.zone_files.proofs.ZoneLemmas.{kind_next, row_added}
use Rattle.zone_files.proofs.zone_file.ZoneFile.all_rows.Goals as goal

pub each-preserved : goal.each-preserved
each-preserved c =
    let more : c.push.new.self.items ≡ c.each.rows.items ++ c.in-Some.row ∷ [] = c.in_ok-push-in-Some.ensures.items in
    record {
      rows =
          subst (λ (rows : List Transition). (j : ℕ) → j < c.each.i + 1 → IsRow c.args.self.now j (row_at rows j)) (sym more)
          (row_added c.args.self.now c.each.rows.items c.each.i c.in-Some.row c.each.invariant.count c.each.invariant.rows c.in-Some.ensures.some);
      before = kind_next c.args.self.now.block c.each.i c.in-Some.row.after c.in-Some.ensures.some.after;
      count = omega (arith, c.in_ok-push-in-Some.ensures.len, c.each.invariant.count);
    }

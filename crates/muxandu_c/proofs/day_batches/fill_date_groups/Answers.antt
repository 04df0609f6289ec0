use Rattle.std.proofs.Common.{rules, ◌≡◌, ◌∙◌, true, arith}
use Rattle.muxandu_c.proofs.SecondBatchLemmas.{drop-later}
use Rattle.muxandu_c.proofs.day_batches.fill_date_groups.Goals as goal

pub groups-preserved : goal.groups-preserved
groups-preserved c =
    let before = c.groups.invariant in
    let done : c.put_date_group.result ≡ true = search rules in
    record {
      values = c.put_date_group.ensures.values done ∙ before.values;
      status = c.put_date_group.ensures.status done ∙ before.status;
      behind = c.put_date_group.ensures.behind ∙ drop-later c.groups.out c.args.out.now c.groups.place before.behind;
      len = c.put_date_group.ensures.len ∙ before.len;
      within = omega arith;
    }

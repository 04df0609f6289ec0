use Rattle.zone_files.proofs.ZoneLemmas.{zone_of}
use Rattle.zone_files.proofs.zone_file.ZoneFile.zone.Goals as goal

pub returns : goal.returns
returns c =
    zone_of c.args.self.now c.args.rows.now c.kind-first.result c.ending.result c.zone_after.result c.kind-first.ensures
    c.ending.ensures c.zone_after.ensures

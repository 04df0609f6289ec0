use Rattle.std.proofs.Common.{rules, inl, inr}
use Rattle.muxandu_c.proofs.zone_batches.convert_in_zone.Goals as goal

pub returns-in-Ok-zone_of : goal.returns-in-Ok-zone_of
returns-in-Ok-zone_of g c =
    let filled = c.fill_in_zone.ensures in
    inr (search rules, inl (c.in-Ok-zone_of.zone, c.in-Ok-zone_of.ensures, (filled.values, filled.count, filled.behind)))

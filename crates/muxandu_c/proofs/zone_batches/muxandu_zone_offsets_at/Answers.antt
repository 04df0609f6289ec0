use Rattle.std.proofs.Common.{rules, inl, inr}
use Rattle.muxandu_c.proofs.zone_batches.muxandu_zone_offsets_at.Goals as goal

pub returns-in-Ok-zone_of : goal.returns-in-Ok-zone_of
returns-in-Ok-zone_of c =
    let filled = c.fill_offsets.ensures in
    inr (
      search rules,
      inl (c.in-Ok-zone_of.zone, c.in-Ok-zone_of.ensures, (filled.values, filled.count, filled.behind)),
    )

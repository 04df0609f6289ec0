use Rattle.std.proofs.Common.{inl}
use Rattle.muxandu_c.proofs.zone_times.shown_in.Goals as goal

pub returns-in-Ok-zone_of : goal.returns-in-Ok-zone_of
returns-in-Ok-zone_of c = inl (c.in-Ok-zone_of.zone, c.in-Ok-zone_of.ensures, c.show_instant.ensures)

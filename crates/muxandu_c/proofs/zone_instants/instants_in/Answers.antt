use Rattle.muxandu_c.proofs.zone_instants.instants_in.Goals as goal

pub returns-in-Ok-zone_of : goal.returns-in-Ok-zone_of
returns-in-Ok-zone_of c = (c.in-Ok-zone_of.zone, c.in-Ok-zone_of.ensures, c.instants_of.ensures)

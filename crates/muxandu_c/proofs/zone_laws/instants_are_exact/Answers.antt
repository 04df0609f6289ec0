use Rattle.muxandu_c.proofs.ZoneInstantLemmas as lemmas
use Rattle.muxandu_c.proofs.zone_laws.instants_are_exact.Goals as goal

pub returns : goal.returns
returns c = lemmas.instants_are_exact

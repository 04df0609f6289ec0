use Rattle.muxandu_c.proofs.ZoneChoiceLemmas.{apart}
use Rattle.muxandu_c.proofs.zone_laws.reasons_are_apart.Goals as goal

pub returns : goal.returns
returns c = apart

use Rattle.muxandu_c.proofs.ZoneChoiceLemmas.{numbered}
use Rattle.muxandu_c.proofs.zone_laws.choices_are_numbered.Goals as goal

pub returns : goal.returns
returns c = numbered

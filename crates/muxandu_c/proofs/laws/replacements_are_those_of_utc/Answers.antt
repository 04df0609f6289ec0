use Rattle.muxandu_c.proofs.PartLawLemmas.{utc_replacements}
use Rattle.muxandu_c.proofs.laws.replacements_are_those_of_utc.Goals as goal

pub returns : goal.returns
returns c = utc_replacements

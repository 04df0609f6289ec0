use Rattle.muxandu_c.proofs.PartLawLemmas.{replacements}
use Rattle.muxandu_c.proofs.laws.replacements_keep_other_parts.Goals as goal

pub returns : goal.returns
returns c = replacements

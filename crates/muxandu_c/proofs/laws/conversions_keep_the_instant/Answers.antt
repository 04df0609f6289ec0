use Rattle.muxandu_c.proofs.SumLawLemmas.{conversions}
use Rattle.muxandu_c.proofs.laws.conversions_keep_the_instant.Goals as goal

pub returns : goal.returns
returns c = conversions

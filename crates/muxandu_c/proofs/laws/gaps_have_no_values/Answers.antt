use Rattle.muxandu_c.proofs.GapLawLemmas.{gaps}
use Rattle.muxandu_c.proofs.laws.gaps_have_no_values.Goals as goal

pub returns : goal.returns
returns c = gaps

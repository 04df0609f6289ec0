use Rattle.muxandu_c.proofs.PartLawLemmas.{clock_truncations}
use Rattle.muxandu_c.proofs.laws.truncations_are_those_of_clocks.Goals as goal

pub returns : goal.returns
returns c = clock_truncations

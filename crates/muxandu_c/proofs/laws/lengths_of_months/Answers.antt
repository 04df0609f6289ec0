use Rattle.muxandu_c.proofs.PartLawLemmas.{lengths}
use Rattle.muxandu_c.proofs.laws.lengths_of_months.Goals as goal

pub returns : goal.returns
returns c = lengths

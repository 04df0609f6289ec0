use Rattle.muxandu_c.proofs.TextLawLemmas.{texts_of_range}
use Rattle.muxandu_c.proofs.laws.texts_of_range.Goals as goal

pub returns : goal.returns
returns c = texts_of_range

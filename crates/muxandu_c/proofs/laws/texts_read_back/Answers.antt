use Rattle.muxandu_c.proofs.TextLawLemmas.{texts}
use Rattle.muxandu_c.proofs.laws.texts_read_back.Goals as goal

pub returns : goal.returns
returns c = texts

use Rattle.muxandu_c.proofs.PartLawLemmas.{truncations}
use Rattle.muxandu_c.proofs.laws.truncations_clear_parts.Goals as goal

pub returns : goal.returns
returns c = truncations

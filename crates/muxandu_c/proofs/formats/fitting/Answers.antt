use Rattle.muxandu_c.proofs.DescriptionLemmas.{fitting-at_some, fitting-at_none}
use Rattle.muxandu_c.proofs.formats.fitting.Goals as goal

pub returns-in-Some : goal.returns-in-Some
returns-in-Some c = λ whole h. fitting-at_some c.in-Some.text whole (rw c.in-Some.is at h)

pub returns-in-None : goal.returns-in-None
returns-in-None c = λ whole h. fitting-at_none whole (rw c.in-None.is at h)

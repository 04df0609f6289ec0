use Rattle.rfc3339.specs.Texts.{text_with, rfc3339_text}
use Rattle.rfc3339.proofs.write.text_of.Goals as goal

pub returns-clause-text : goal.returns-clause-text
unfolding text_with rfc3339_text
returns-clause-text c = c.text_with.ensures.text

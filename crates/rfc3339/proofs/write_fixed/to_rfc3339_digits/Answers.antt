use Rattle.rfc3339.specs.Texts.{text_with, digits_text}
use Rattle.rfc3339.proofs.write_fixed.to_rfc3339_digits.Goals as goal

pub returns-clause-text : goal.returns-clause-text
unfolding text_with digits_text
returns-clause-text c = c.text_with.ensures.text

use Rattle.calendar_values.specs.Digits.{last_digits}
use Rattle.rfc3339.specs.Texts.{text_with, fixed_text_at, fraction_of_digits}
use Rattle.rfc3339.proofs.write_fixed.to_rfc3339_nanos_at.Goals as goal

pub returns-clause-text : goal.returns-clause-text
unfolding text_with fixed_text_at fraction_of_digits last_digits
returns-clause-text c = c.text_with.ensures.text

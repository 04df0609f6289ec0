use Rattle.rfc3339.proofs.DigitTextLemmas.{reading_of-digits}
use Rattle.rfc3339.proofs.laws.texts_of_digits_truncate.Goals as goal

pub returns : goal.returns
returns c = reading_of-digits

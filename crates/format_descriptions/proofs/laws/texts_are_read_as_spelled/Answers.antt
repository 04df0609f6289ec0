use Rattle.format_descriptions.proofs.SpelledDigitLemmas.{decimal-last_digits}
use Rattle.format_descriptions.proofs.SpelledLemmas.{items-spelled, items-read}
use Rattle.format_descriptions.proofs.laws.texts_are_read_as_spelled.Goals as goal

pub returns : goal.returns
returns c = record { read = items-spelled; spelled = items-read; digits = decimal-last_digits }

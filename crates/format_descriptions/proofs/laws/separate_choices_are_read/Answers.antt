use Rattle.format_descriptions.proofs.SeparateLemmas.{separate-choice-chosen, separate-choices-read}
use Rattle.format_descriptions.proofs.laws.separate_choices_are_read.Goals as goal

pub returns : goal.returns
returns c = record { choice = separate-choice-chosen; read = separate-choices-read }

use Rattle.format_descriptions.proofs.ChoiceLemmas.{texts-spell-choices}
use Rattle.format_descriptions.proofs.WrittenChoiceLemmas.{written-choice}
use Rattle.format_descriptions.proofs.laws.texts_spell_choices.Goals as goal

pub returns : goal.returns
returns c = record { read = texts-spell-choices; written = written-choice }

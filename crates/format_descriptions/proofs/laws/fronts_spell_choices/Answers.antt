use Rattle.format_descriptions.proofs.FrontSpelledLemmas.{fronts-spell-choices}
use Rattle.format_descriptions.proofs.laws.fronts_spell_choices.Goals as goal

pub returns : goal.returns
returns c = record { read = fronts-spell-choices }

use Rattle.std.proofs.Common.{◌∙◌}
use Rattle.iso_texts.proofs.IsoFormLemmas.{iso_parts_again, parts_are}
use Rattle.iso_texts.proofs.parse.iso_parts.Goals as goal

pub returns-clause-equation : goal.returns-clause-equation
returns-clause-equation c p h = c.parts.ensures.value ∙ iso_parts_again c.args.text.now p h

pub returns-clause-spelled : goal.returns-clause-spelled
returns-clause-spelled c = parts_are c.args.text.now c.parts.result c.parts.ensures.value

use Rattle.format_descriptions.proofs.ItemLemmas.{no_word}
use Rattle.format_descriptions.proofs.pieces.put_offset_word.Goals as goal

pub returns-then-not-is_zero-clause-none : goal.returns-then-not-is_zero-clause-none
returns-then-not-is_zero-clause-none c = no_word c.args.word _ c.if-not-is_zero.ensures

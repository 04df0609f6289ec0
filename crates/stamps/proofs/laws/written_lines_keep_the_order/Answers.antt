use Rattle.stamps.proofs.UtcLawLemmas.{written_less}
use Rattle.stamps.proofs.laws.written_lines_keep_the_order.Goals as goal

pub returns : goal.returns
returns c = written_less c.fixed_texts_keep_the_order.ensures

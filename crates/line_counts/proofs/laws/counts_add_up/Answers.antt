use Rattle.line_counts.proofs.SumLemmas.{counts-add_up}
use Rattle.line_counts.proofs.laws.counts_add_up.Goals as goal

pub returns : goal.returns
returns g c = counts-add_up

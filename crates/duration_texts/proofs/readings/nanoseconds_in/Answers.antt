use Rattle.duration_texts.proofs.DerivesLemmas.{nanoseconds_in-derived}
use Rattle.duration_texts.proofs.readings.nanoseconds_in.Goals as goal

pub returns-clause-derived : goal.returns-clause-derived
returns-clause-derived c = nanoseconds_in-derived c.args.text.now c.sum_in.result c.sum_in.ensures.value c.sum_in.ensures.in_range

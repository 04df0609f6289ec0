use Rattle.std.proofs.Common.{arith, ◌∙◌}
use Rattle.times_bench.proofs.WordLemmas.{bytes_eq-as_long}
use Rattle.times_bench.proofs.words.is.Goals as goal

pub returns : goal.returns
returns c = (rw c.as_bytes-2.ensures.value at c.starts_with.ensures.value) ∙ bytes_eq-as_long c.args.word.now c.args.text.now (omega arith)

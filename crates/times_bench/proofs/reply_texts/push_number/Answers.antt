use Rattle.std.proofs.Common.{arith}
use Rattle.std.proofs.lemmas.Fmt.{length-decimal-le}
use Rattle.times_bench.proofs.reply_texts.push_number.Goals as goal

pub returns-else-number-lt100-clause-length : goal.returns-else-number-lt100-clause-length
returns-else-number-lt100-clause-length c = omega (arith, length-decimal-le 10 c.from.result (omega arith) (omega arith) (omega arith))

use Rattle.std.proofs.Common.{take}
use Rattle.times_bench.proofs.NumberLemmas.{IsValueOf}
use Rattle.times_bench.proofs.numbers.parse_digits.Given as goal

abbrev pub invariant-loop-byte : goal.invariant-loop-byte
invariant-loop-byte l = IsValueOf (take l.byte-index l.text) l.value

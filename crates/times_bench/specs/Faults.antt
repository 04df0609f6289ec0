-- The messages of faults.
use Rattle.std.specs.Prelude.{ℕ, List, codes}
use Rattle.times_bench.specs.declared.bench.BenchFault.{BenchFault}
use Rattle.times_bench.specs.declared.bench.BenchFault.TheVariants.{Read, Write, Memory}
use Rattle.times_bench.specs.declared.sending.AnswerFault.{AnswerFault}
use Rattle.times_bench.specs.declared.sending.AnswerFault.TheVariants as sending

-- the fault of the work for a fault of sending an answer
abbrev pub bench_fault : AnswerFault → BenchFault
bench_fault sending.Write = Write
bench_fault sending.Memory = Memory

abbrev pub fault_text : BenchFault → List ℕ
fault_text Read = codes "read failed"
fault_text Write = codes "write failed"
fault_text Memory = codes "out of memory"

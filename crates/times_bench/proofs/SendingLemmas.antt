-- Writing one text after another.
use Rattle.times_bench.specs.Progress.{AtFault}
use Rattle.times_bench.specs.declared.sending.AnswerFault.{AnswerFault}
use Rattle.times_bench.specs.declared.sending.AnswerFault.TheVariants.{Write, Memory}

-- what holds after a fault, weakened
pub AtFault-weaker : {Cut Short Cut' Short' : Type 0} (fault : AnswerFault) → AtFault fault Cut Short → (Cut → Cut') → (Short → Short')
    → AtFault fault Cut' Short'
AtFault-weaker Write h f g = f h
AtFault-weaker Memory h f g = g h

use Rattle.std.proofs.Common.{arith}
use Rattle.calendar_values.specs.SignedArith.{signed_casts}
use Rattle.offset_times.proofs.carries.carry_sixty.Goals as goal

pub overflow_cast-result-2 : goal.overflow_cast-result-2
overflow_cast-result-2 c = omega (arith, signed_casts)

pub overflow_sub-result : goal.overflow_sub-result
overflow_sub-result c = omega (arith, signed_casts)

pub returns-clause-sum : goal.returns-clause-sum
returns-clause-sum c = omega (arith, signed_casts)

pub returns-clause-within : goal.returns-clause-within
returns-clause-within c = omega (arith, signed_casts)

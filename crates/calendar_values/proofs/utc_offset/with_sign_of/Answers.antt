use Rattle.std.proofs.Common.{arith}
use Rattle.std.proofs.lemmas.Int.{ints}
use Rattle.calendar_values.specs.SignedArith.{signed_arith}
use Rattle.calendar_values.proofs.utc_offset.with_sign_of.Goals as goal

pub overflow_sub-result : goal.overflow_sub-result
overflow_sub-result c = omega (arith, signed_arith)

pub returns-then-part-lt0 : goal.returns-then-part-lt0
returns-then-part-lt0 c = grind (arith, ints)

pub returns-else-part-lt0 : goal.returns-else-part-lt0
returns-else-part-lt0 c = grind (arith, ints)

use Rattle.std.proofs.Common.{arith}
use Rattle.calendar_values.specs.SignedArith.{signed_arith}
use Rattle.offset_times.proofs.offset_date_time.operators.between_offsets.Goals as goal

pub overflow_sub-whole_seconds : goal.overflow_sub-whole_seconds
overflow_sub-whole_seconds c = omega (arith, signed_arith)

pub returns : goal.returns
returns c = omega (arith, signed_arith, c.seconds.ensures)

use Rattle.std.proofs.Common.{arith}
use Rattle.calendar_values.specs.SignedArith.{signed_arith}
use Rattle.offset_times.specs.Local.{instant_of}
use Rattle.offset_times.proofs.offset_date_time.OffsetDateTime.unix_timestamp.Goals as goal

pub overflow_sub-result : goal.overflow_sub-result
overflow_sub-result c = omega (arith, signed_arith)

pub returns : goal.returns
unfolding instant_of
returns c = omega (arith, signed_arith)

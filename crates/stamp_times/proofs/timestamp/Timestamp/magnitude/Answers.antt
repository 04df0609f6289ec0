use Rattle.std.proofs.Common.{arith}
use Rattle.calendar_values.specs.SignedArith.{signed_casts}
use Rattle.stamp_times.proofs.timestamp.Timestamp.magnitude.Goals as goal

pub overflow_cast-result : goal.overflow_cast-result
overflow_cast-result c = omega (arith, signed_casts)

pub overflow_sub-result : goal.overflow_sub-result
overflow_sub-result c = omega (arith, signed_casts)

pub overflow_cast-result-then-nanosecond-eq0 : goal.overflow_cast-result-then-nanosecond-eq0
overflow_cast-result-then-nanosecond-eq0 c = omega (arith, signed_casts)

pub overflow_sub-result-else-nanosecond-eq0 : goal.overflow_sub-result-else-nanosecond-eq0
overflow_sub-result-else-nanosecond-eq0 c = omega (arith, signed_casts)

pub overflow_sub-result-else-nanosecond-eq0-2 : goal.overflow_sub-result-else-nanosecond-eq0-2
overflow_sub-result-else-nanosecond-eq0-2 c = omega (arith, signed_casts)

pub overflow_cast-result-else-nanosecond-eq0 : goal.overflow_cast-result-else-nanosecond-eq0
overflow_cast-result-else-nanosecond-eq0 c = omega (arith, signed_casts)

pub overflow_cast-result-else-nanosecond-eq0-2 : goal.overflow_cast-result-else-nanosecond-eq0-2
overflow_cast-result-else-nanosecond-eq0-2 c = omega (arith, signed_casts)

pub overflow_sub-result-else-nanosecond-eq0-3 : goal.overflow_sub-result-else-nanosecond-eq0-3
overflow_sub-result-else-nanosecond-eq0-3 c = omega (arith, signed_casts)

pub returns-then-seconds-ge0-clause-in_range : goal.returns-then-seconds-ge0-clause-in_range
returns-then-seconds-ge0-clause-in_range c = omega (arith, signed_casts)

pub returns-then-nanosecond-eq0-clause-in_range : goal.returns-then-nanosecond-eq0-clause-in_range
returns-then-nanosecond-eq0-clause-in_range c = omega (arith, signed_casts)

pub returns-else-nanosecond-eq0-clause-in_range : goal.returns-else-nanosecond-eq0-clause-in_range
returns-else-nanosecond-eq0-clause-in_range c = omega (arith, signed_casts)

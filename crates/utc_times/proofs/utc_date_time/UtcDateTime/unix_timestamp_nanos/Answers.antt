use Rattle.std.proofs.Common.{arith}
use Rattle.calendar_values.specs.SignedArith.{signed_casts}
use Rattle.utc_times.proofs.UnixLemmas.{unix_seconds_of-nanosecond}
use Rattle.utc_times.proofs.utc_date_time.UtcDateTime.unix_timestamp_nanos.Goals as goal

pub overflow_mul-result : goal.overflow_mul-result
overflow_mul-result c = omega (arith, signed_casts)

pub overflow_add-result : goal.overflow_add-result
overflow_add-result c = omega (arith, signed_casts)

pub returns-clause-value : goal.returns-clause-value
returns-clause-value c = omega (arith, signed_casts, unix_seconds_of-nanosecond c.as_plain.result)

use Rattle.std.proofs.Common.{rules}
use Rattle.calendar_values.specs.Durations.{subsec_microseconds_of}
use Rattle.calendar_values.proofs.signed_duration.SignedDuration.subsec_microseconds.Goals as goal

pub returns-clause-value : goal.returns-clause-value
unfolding subsec_microseconds_of
returns-clause-value c = rw (← c.subsec_nanoseconds.ensures.value) (search rules)

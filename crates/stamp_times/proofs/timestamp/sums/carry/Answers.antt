use Rattle.std.proofs.Common.{arith}
use Rattle.calendar_values.specs.SignedArith.{signed_casts}
use Rattle.stamp_times.proofs.TimestampSumLemmas.{IsWallClock-same}
use Rattle.stamp_times.proofs.timestamp.sums.carry.Goals as goal

pub returns-in-Some : goal.returns-in-Some
returns-in-Some c = IsWallClock-same _ _ _ c.from_parts.ensures (omega (arith, signed_casts, c.in-Some.ensures))

pub returns-then-nanoseconds-lt-NANOS_PER_SECOND : goal.returns-then-nanoseconds-lt-NANOS_PER_SECOND
returns-then-nanoseconds-lt-NANOS_PER_SECOND c =
    IsWallClock-same _ _ _ c.from_parts-then-nanoseconds-lt-NANOS_PER_SECOND.ensures (omega (arith, signed_casts))

pub returns-in-Some-checked_add : goal.returns-in-Some-checked_add
returns-in-Some-checked_add c =
    IsWallClock-same _ _ _ c.from_parts-in-Some-checked_add.ensures (omega (arith, signed_casts, c.in-Some-checked_add.ensures))

pub overflow_cast-nanoseconds : goal.overflow_cast-nanoseconds
overflow_cast-nanoseconds c = omega (arith, signed_casts)

pub overflow_add-nanoseconds : goal.overflow_add-nanoseconds
overflow_add-nanoseconds c = omega (arith, signed_casts)

pub overflow_add-nanoseconds-in-Some : goal.overflow_add-nanoseconds-in-Some
overflow_add-nanoseconds-in-Some c = omega (arith, signed_casts)

pub overflow_cast-nanoseconds-in-Some : goal.overflow_cast-nanoseconds-in-Some
overflow_cast-nanoseconds-in-Some c = omega (arith, signed_casts)

pub from_parts-requires : goal.from_parts-requires
from_parts-requires c = omega (arith, signed_casts)

pub overflow_cast-nanoseconds-then-nanoseconds-lt-NANOS_PER_SECOND : goal.overflow_cast-nanoseconds-then-nanoseconds-lt-NANOS_PER_SECOND
overflow_cast-nanoseconds-then-nanoseconds-lt-NANOS_PER_SECOND c = omega (arith, signed_casts)

pub from_parts-requires-then-nanoseconds-lt-NANOS_PER_SECOND : goal.from_parts-requires-then-nanoseconds-lt-NANOS_PER_SECOND
from_parts-requires-then-nanoseconds-lt-NANOS_PER_SECOND c = omega (arith, signed_casts)

pub overflow_sub-nanoseconds : goal.overflow_sub-nanoseconds
overflow_sub-nanoseconds c = omega (arith, signed_casts)

pub overflow_cast-nanoseconds-in-Some-checked_add : goal.overflow_cast-nanoseconds-in-Some-checked_add
overflow_cast-nanoseconds-in-Some-checked_add c = omega (arith, signed_casts)

pub from_parts-requires-in-Some-checked_add : goal.from_parts-requires-in-Some-checked_add
from_parts-requires-in-Some-checked_add c = omega (arith, signed_casts)

pub returns-in-None : goal.returns-in-None
returns-in-None c = λ within. omega (arith, signed_casts, c.in-None.ensures)

pub returns-in-None-checked_add : goal.returns-in-None-checked_add
returns-in-None-checked_add c = λ within. omega (arith, signed_casts, c.in-None-checked_add.ensures)

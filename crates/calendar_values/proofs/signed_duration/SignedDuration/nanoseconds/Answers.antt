use Rattle.std.proofs.Common.{◌≡◌, ℤ, pos, int_div, int_rem, FitsSigned, w32, w64, to_z, of_z, arith}
use Rattle.calendar_values.specs.Durations.{whole_seconds_of, subsec_nanoseconds_of}
use Rattle.calendar_values.specs.DurationPartLemmas.{IsDurationParts-of}
use Rattle.calendar_values.specs.SignedArith.{signed_arith, one_part}
use Rattle.calendar_values.proofs.signed_duration.SignedDuration.nanoseconds.Goals as goal

-- the seconds and the nanoseconds, as the code computes them
computed_seconds : (n : ℤ) → FitsSigned w64 n → to_z w64 (of_z w64 (int_div (to_z w64 (of_z w64 n)) (pos 1_000_000_000))) ≡ whole_seconds_of n
unfolding whole_seconds_of
computed_seconds n fits = omega (arith, signed_arith, one_part n)

computed_nanoseconds : (n : ℤ) → FitsSigned w64 n →
    to_z w32 (of_z w32 (to_z w64 (of_z w64 (int_rem (to_z w64 (of_z w64 n)) (pos 1_000_000_000))))) ≡ subsec_nanoseconds_of n
unfolding subsec_nanoseconds_of
computed_nanoseconds n fits = omega (arith, signed_arith, one_part n)

pub overflow_cast-result-3 : goal.overflow_cast-result-3
overflow_cast-result-3 c = omega (arith, signed_arith, one_part c.args.nanoseconds)

pub invariant_of-result : goal.invariant_of-result
invariant_of-result c =
    let n = c.args.nanoseconds in
    rw (computed_seconds n c.ranges.nanoseconds, computed_nanoseconds n c.ranges.nanoseconds) (IsDurationParts-of n)

pub returns : goal.returns
returns c = omega (arith, signed_arith, one_part c.args.nanoseconds)

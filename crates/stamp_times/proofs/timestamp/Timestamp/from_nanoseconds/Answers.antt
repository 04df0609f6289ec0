use Rattle.std.proofs.Common.{arith}
use Rattle.calendar_values.specs.SignedArith.{signed_casts}
use Rattle.stamp_times.proofs.OutcomeLemmas.{Gives-instant}
use Rattle.stamp_times.proofs.timestamp.Timestamp.from_nanoseconds.Goals as goal

pub invariant_of-result : goal.invariant_of-result
invariant_of-result c = omega (arith, signed_casts, c.rem_euclid.ensures.value, c.div_euclid.ensures)

pub returns : goal.returns
returns c =
    Gives-instant _ _ _ (omega (arith, signed_casts))
    (omega (arith, signed_casts, c.rem_euclid.ensures.value, c.div_euclid.ensures))

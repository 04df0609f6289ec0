use Rattle.std.proofs.Common.{inl, inr, pos, ◌-ℤ◌, to_z, of_z, FitsSigned, w32, w64, to_z-of_z, arith, refl}
use Rattle.calendar_values.specs.SignedArith.{signed_arith, one_part}
use Rattle.calendar_values.proofs.signed_duration.SignedDuration.of_one_sign.Goals as goal

pub overflow_sub-result : goal.overflow_sub-result
overflow_sub-result c = omega (arith, signed_arith)

pub overflow_add-result : goal.overflow_add-result
overflow_add-result c = omega (arith, signed_arith)

pub invariant_of-result : goal.invariant_of-result
invariant_of-result c = record {
  in_range = omega (arith, signed_arith);
  one_sign = inl (omega (arith, signed_arith), omega (arith, signed_arith));
}

pub returns-then-nanoseconds-lt0 : goal.returns-then-nanoseconds-lt0
returns-then-nanoseconds-lt0 c = omega (arith, signed_arith)

pub overflow_add-result-then-nanoseconds-gt0 : goal.overflow_add-result-then-nanoseconds-gt0
overflow_add-result-then-nanoseconds-gt0 c = omega (arith, signed_arith)

pub overflow_sub-result-then-nanoseconds-gt0 : goal.overflow_sub-result-then-nanoseconds-gt0
overflow_sub-result-then-nanoseconds-gt0 c = omega (arith, signed_arith)

pub invariant_of-result-then-nanoseconds-gt0 : goal.invariant_of-result-then-nanoseconds-gt0
invariant_of-result-then-nanoseconds-gt0 c = record {
  in_range = omega (arith, signed_arith, one_part (to_z w32 (of_z w32 (to_z w32 (of_z w32 c.args.nanoseconds) -ℤ pos 1_000_000_000))));
  one_sign = inr (omega (arith, signed_arith), omega (arith, signed_arith));
}

pub returns-then-nanoseconds-gt0 : goal.returns-then-nanoseconds-gt0
returns-then-nanoseconds-gt0 c = omega (arith, signed_arith)

pub returns : goal.returns
returns c =
    let s : FitsSigned w64 c.args.seconds = c.ranges.seconds in
    let n : FitsSigned w32 c.args.nanoseconds = c.ranges.nanoseconds in
    simp to_z-of_z refl

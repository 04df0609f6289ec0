use Rattle.std.proofs.Common.{refl, sym, arith}
use Rattle.calendar_values.specs.HashInputLemmas.{same_of_i64_u32}
use Rattle.calendar_values.specs.SignedArith.{signed_arith}
use Rattle.calendar_values.specs.WallClock.{unix_seconds_of}
use Rattle.stamp_times.specs.Instants.{unix_nanosecond_of, hashed_instant}
use Rattle.stamp_times.specs.TimestampLemmas.{instant_of_parts-of}
use Rattle.stamp_times.proofs.laws.hashed_by_instant.Goals as goal

pub returns : goal.returns
unfolding hashed_instant
returns c x y h k = (
  λ e.
      let parts =
      same_of_i64_u32 (unix_seconds_of x) (unix_seconds_of y) (unix_nanosecond_of x) (unix_nanosecond_of y)
      (omega (arith, signed_arith)) (omega (arith, signed_arith)) (omega (arith, signed_arith)) (omega (arith, signed_arith)) e in
      rw (parts.0, parts.1, instant_of_parts-of y) at (sym (instant_of_parts-of x)),
  λ e. rw e refl,
)

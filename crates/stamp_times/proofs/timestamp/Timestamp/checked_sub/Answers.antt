use Rattle.std.proofs.Common.{◌≡◌, arith, to_z, of_z, w32, pos, neg_ℤ, ◌-ℤ◌}
use Rattle.calendar_values.specs.DurationPartLemmas.{duration_of_parts-of, IsDurationParts-of}
use Rattle.calendar_values.specs.Durations.{subsec_nanoseconds_of}
use Rattle.calendar_values.specs.SignedArith.{signed_casts}
use Rattle.stamp_times.specs.TimestampLemmas.{instant_of_parts-of}
use Rattle.stamp_times.proofs.TimestampSumLemmas.{IsWallClock-same}
use Rattle.stamp_times.proofs.timestamp.Timestamp.checked_sub.Goals as goal

pub returns-in-None : goal.returns-in-None
returns-in-None c =
    let here = instant_of_parts-of c.args.self in
    let sum = duration_of_parts-of c.args.duration in
    let parts = IsDurationParts-of c.args.duration in
    λ within. c.in-None.ensures (omega (arith, signed_casts))

pub returns-in-Some : goal.returns-in-Some
returns-in-Some c =
    let here = instant_of_parts-of c.args.self in
    let sum = duration_of_parts-of c.args.duration in
    let seconds = c.in-Some.ensures in
    IsWallClock-same _ _ _ c.carry.ensures (omega (arith, signed_casts))

pub carry-requires-clause-change : goal.carry-requires-clause-change
carry-requires-clause-change c =
    let parts = IsDurationParts-of c.args.duration in
    let rest : to_z w32 (of_z w32 (pos 0 -ℤ to_z w32 (of_z w32 c.subsec_nanoseconds.result))) ≡ neg_ℤ (subsec_nanoseconds_of c.args.duration) =
    omega (arith, signed_casts) in
    rw rest (omega (arith, signed_casts))

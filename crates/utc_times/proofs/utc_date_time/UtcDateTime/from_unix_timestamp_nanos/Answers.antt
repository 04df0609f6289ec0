use Rattle.std.proofs.Common.{◌≡◌, ◌∙◌, ℤ, pos, Err, ap, arith, to_z, of_z}
use Rattle.std.proofs.lemmas.Int.{to_z-of_z}
use Rattle.std.specs.Int.{w128, int_div_euclid}
use Rattle.calendar_values.specs.Clock.{nanos_per_second}
use Rattle.calendar_values.specs.SignedArith.{signed_casts}
use Rattle.calendar_values.specs.WallClock.{IsWallClock}
use Rattle.utc_times.proofs.UnixLemmas.{second-near, FitsSigned-second-128}
use Rattle.utc_times.specs.UnixTimeLemmas.{OkIff-instant, OkIff-same}
use Rattle.utc_times.proofs.utc_date_time.UtcDateTime.from_unix_timestamp_nanos.Goals.{then-second-via-then-second}
use Rattle.utc_times.proofs.utc_date_time.UtcDateTime.from_unix_timestamp_nanos.Goals.{then-second-via-else-second+then-second-2}
use Rattle.utc_times.proofs.utc_date_time.UtcDateTime.from_unix_timestamp_nanos.Goals as goal

-- the range does not have an instant whose second lies so far from 1970
outside : (c : goal.After-of_part) → IsWallClock c.args.timestamp → ⊥
outside c h =
    let second : ℤ = int_div_euclid c.args.timestamp (pos nanos_per_second) in
    let quotient : c.div_euclid-second.result ≡ second
    = c.div_euclid-second.ensures ∙ ap (λ (z : ℤ). int_div_euclid z (pos nanos_per_second)) (to_z-of_z w128 c.args.timestamp c.ranges.timestamp) in
    let same : to_z w128 (of_z w128 c.div_euclid-second.result) ≡ second
    = ap (λ (z : ℤ). to_z w128 (of_z w128 z)) quotient ∙ to_z-of_z w128 second (FitsSigned-second-128 c.args.timestamp c.ranges.timestamp) in
    let near = second-near c.args.timestamp h in
    elim c.then-second.branch [
      | then-second-via-then-second w ↦ omega (arith, signed_casts, same, near.0, w.if-second)
      | then-second-via-else-second+then-second-2 w ↦ omega (arith, signed_casts, same, near.1, w.if-second-2)
    ]

pub returns-then-second : goal.returns-then-second
returns-then-second c =
    let refused = c.of_part.ensures in
    record { value = outside c; refused = refused; equation = OkIff-instant _ (Err c.of_part.result) c.args.timestamp (outside c) refused }

pub returns : goal.returns
returns c =
    let value = OkIff-same _ _ c.args.timestamp c.after_second.ensures.value
    (omega (arith, signed_casts, c.rem_euclid-nanosecond.ensures.value, c.div_euclid-second.ensures, c.if-second.false, c.if-second-2.false)) in
    let refused = c.after_second.ensures.refused in
    record { value = value; refused = refused; equation = OkIff-instant _ _ _ value refused }

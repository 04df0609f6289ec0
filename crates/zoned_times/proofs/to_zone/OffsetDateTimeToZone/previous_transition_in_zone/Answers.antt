use Rattle.std.proofs.Common.{◌≡◌, ℤ, pos, ◌-ℤ◌, to_z, of_z, arith, subst}
use mir.Syntax.{w64}
use Rattle.calendar_values.specs.SignedArith.{signed_arith}
use Rattle.calendar_values.specs.WallClock.{unix_seconds_of}
use Rattle.offset_times.specs.Local.{instant_of}
use Rattle.zones.specs.Zones.{IsLastTransition}
use Rattle.zoned_times.proofs.PlaceLemmas.{IsLastBefore-second}
use Rattle.zoned_times.proofs.to_zone.OffsetDateTimeToZone.previous_transition_in_zone.Goals as goal

pub returns : goal.returns
returns c =
    let z = c.args.zone.now in
    let i = instant_of c.args.self in
    let is = c.second_from.ensures.value in
    let range = c.second_from.ensures.in_range in
    let e : to_z w64 (of_z w64 c.second_from.result) -ℤ pos 1 ≡ unix_seconds_of (i -ℤ pos 1) = omega (arith, signed_arith) in
    IsLastBefore-second z i c.previous_transition.result
    (subst (λ (s : ℤ). IsLastTransition z s c.previous_transition.result) e c.previous_transition.ensures)

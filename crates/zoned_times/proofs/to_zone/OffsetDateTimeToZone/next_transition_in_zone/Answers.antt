use Rattle.std.proofs.Common.{◌≡◌, ℤ, to_z, of_z, arith, subst}
use mir.Syntax.{w64}
use Rattle.calendar_values.specs.SignedArith.{signed_arith}
use Rattle.calendar_values.specs.WallClock.{unix_seconds_of}
use Rattle.offset_times.specs.Local.{instant_of}
use Rattle.zones.specs.Zones.{IsNextTransition}
use Rattle.zoned_times.proofs.PlaceLemmas.{IsNextAfter-second, IsSecond-local}
use Rattle.zoned_times.proofs.to_zone.OffsetDateTimeToZone.next_transition_in_zone.Goals as goal

pub next_transition-requires : goal.next_transition-requires
next_transition-requires c =
    let is = c.unix_timestamp.ensures in
    let range = IsSecond-local c.args.self c.offset-in_range.ensures.self_in_range in
    (omega (arith, signed_arith), omega (arith, signed_arith))

pub returns : goal.returns
returns c =
    let z = c.args.zone.now in
    let i = instant_of c.args.self in
    let is = c.unix_timestamp.ensures in
    let range = IsSecond-local c.args.self c.offset-in_range.ensures.self_in_range in
    let e : to_z w64 (of_z w64 c.unix_timestamp.result) ≡ unix_seconds_of i = omega (arith, signed_arith) in
    IsNextAfter-second z i c.next_transition.result (subst (λ (s : ℤ). IsNextTransition z s c.next_transition.result) e c.next_transition.ensures)

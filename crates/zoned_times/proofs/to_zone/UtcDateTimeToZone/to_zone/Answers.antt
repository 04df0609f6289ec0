use Rattle.std.proofs.Common.{◌≡◌, ℤ, to_z, of_z, arith, subst}
use mir.Syntax.{w64}
use Rattle.calendar_values.specs.SignedArith.{signed_arith}
use Rattle.calendar_values.specs.WallClock.{unix_seconds_of}
use Rattle.zones.specs.Zones.{IsZoneOffset}
use Rattle.zoned_times.proofs.PlaceLemmas.{HasOffset-second, IsSecond-instant}
use Rattle.zoned_times.proofs.to_zone.UtcDateTimeToZone.to_zone.Goals as goal

pub returns-clause-value : goal.returns-clause-value
returns-clause-value c =
    let z = c.args.zone.now in
    let i = c.args.self in
    let o = c.offset_at.result in
    let is = c.unix_timestamp.ensures.value in
    let range = IsSecond-instant i c.unix_timestamp.ensures.self_in_range in
    let e : to_z w64 (of_z w64 c.unix_timestamp.result) ≡ unix_seconds_of i = omega (arith, signed_arith) in
    (o, HasOffset-second z i o (subst (λ (s : ℤ). IsZoneOffset z s o) e c.offset_at.ensures), c.checked_to_offset.ensures.value)

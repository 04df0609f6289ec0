use Rattle.std.proofs.Common.{◌≡◌, ℤ, to_z, of_z, arith, subst}
use mir.Syntax.{w64}
use Rattle.calendar_values.specs.SignedArith.{signed_arith}
use Rattle.calendar_values.specs.WallClock.{unix_seconds_of}
use Rattle.offset_times.specs.Local.{instant_of}
use Rattle.zones.specs.Zones.{IsZoneOffset}
use Rattle.zoned_times.proofs.PlaceLemmas.{HasOffset-second, IsSecond-local}
use Rattle.zoned_times.proofs.to_zone.OffsetDateTimeToZone.to_zone.Goals as goal

pub offset_at-requires : goal.offset_at-requires
offset_at-requires c =
    let is = c.unix_timestamp.ensures in
    let range = IsSecond-local c.args.self c.offset-in_range.ensures.self_in_range in
    (omega (arith, signed_arith), omega (arith, signed_arith))

pub returns-clause-value : goal.returns-clause-value
returns-clause-value c =
    let z = c.args.zone.now in
    let i = instant_of c.args.self in
    let o = c.offset_at.result in
    let is = c.unix_timestamp.ensures in
    let range = IsSecond-local c.args.self c.offset-in_range.ensures.self_in_range in
    let e : to_z w64 (of_z w64 c.unix_timestamp.result) ≡ unix_seconds_of i = omega (arith, signed_arith) in
    (o, HasOffset-second z i o (subst (λ (s : ℤ). IsZoneOffset z s o) e c.offset_at.ensures), c.checked_to_offset.ensures.value)

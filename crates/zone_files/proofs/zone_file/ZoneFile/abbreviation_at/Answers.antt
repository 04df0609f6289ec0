use Rattle.std.proofs.Common.{◌≡◌, ℤ, to_z, of_z, arith, refl, subst}
use mir.Syntax.{w64}
use Rattle.calendar_values.specs.SignedArith.{signed_arith}
use Rattle.zones.specs.Zones.{IsZoneType}
use Rattle.zone_files.proofs.zone_file.ZoneFile.abbreviation_at.Goals as goal

pub returns : goal.returns
returns c =
    let kind = c.type_at-kind.result in
    let fits = c.ranges.second in
    let range = c.requires in
    let offset = kind.offset_in in
    let e : to_z w64 (of_z w64 c.args.second) ≡ c.args.second = omega (arith, signed_arith) in
    record {
      kind = kind;
      has = subst (λ (s : ℤ). IsZoneType c.args.zone.now s kind) e c.type_at-kind.ensures;
      offset_is = omega (arith, signed_arith);
      daylight_is = refl;
      name_is = c.abbreviation.ensures;
    }

use Rattle.std.proofs.Common.{◌≡◌, ℤ, Option, Some, None, FitsSigned, to_z, of_z, arith, sym, subst}
use mir.Syntax.{w64}
use Rattle.calendar_values.specs.SignedArith.{signed_arith}
use Rattle.zones.specs.declared.tail.Tail.{Tail}
use Rattle.zones.specs.Clocks.{IsTypeAt}
use Rattle.zones.specs.Zones.{ZoneParts, HasOf, seconds_of, types_of, IsZoneType}
use Rattle.zones.proofs.zone.Zone.type_at.Goals as goal

back : (z : ℤ) → FitsSigned w64 z → to_z w64 (of_z w64 z) ≡ z
back z h = omega (arith, signed_arith)

pub returns-in-Some : goal.returns-in-Some
returns-in-Some c =
    let a = c.self.inside in
    let rows = a.rows.now in
    let found = c.type_at.result in
    let here = subst (λ (t : ℤ). IsTypeAt (HasOf rows (Some c.in-Some.tail)) (seconds_of rows (Some c.in-Some.tail))
    (types_of a.first rows (Some c.in-Some.tail)) t found) (back c.args.second c.ranges.second) c.type_at.ensures in
    let parts = subst (λ (o : Option Tail). IsTypeAt (HasOf rows o) (seconds_of rows o) (types_of a.first rows o) c.args.second found) (sym c.in-Some.is)
    here in
    subst (λ (z : ZoneParts). IsZoneType z c.args.second found) c.self.view_is parts

pub returns-in-None : goal.returns-in-None
returns-in-None c =
    let a = c.self.inside in
    let rows = a.rows.now in
    let found = c.type_at-in-None.result in
    let here = subst (λ (t : ℤ). IsTypeAt (HasOf rows (None)) (seconds_of rows (None)) (types_of a.first rows (None)) t found)
    (back c.args.second c.ranges.second) c.type_at-in-None.ensures in
    let parts = subst (λ (o : Option Tail). IsTypeAt (HasOf rows o) (seconds_of rows o) (types_of a.first rows o) c.args.second found) (sym c.in-None.is)
    here in
    subst (λ (z : ZoneParts). IsZoneType z c.args.second found) c.self.view_is parts

use Rattle.std.proofs.Common.{◌≡◌, ℤ, Option, Some, FitsSigned, to_z, of_z, arith, sym, subst}
use mir.Syntax.{w64}
use Rattle.std.specs.Prelude.{IfSome}
use Rattle.calendar_values.specs.SignedArith.{signed_arith}
use Rattle.zones.specs.declared.tail.Tail.{Tail}
use Rattle.zones.specs.Zones.{ZoneParts, IsSettledOf, IsZoneSettled}
use Rattle.zones.proofs.zone.Zone.settled_type.Goals as goal

back : (z : ℤ) → FitsSigned w64 z → to_z w64 (of_z w64 z) ≡ z
back z h = omega (arith, signed_arith)

pub returns-in-Some : goal.returns-in-Some
returns-in-Some c =
    let a = c.self.inside in
    let rows = a.rows.now in
    let local = c.args.local in
    let found = c.settled_type.result in
    let here = subst (λ (t : ℤ). IfSome found (λ kind. IsSettledOf a.first rows (Some c.in-Some.tail) t kind)) (back local c.ranges.local)
    c.settled_type.ensures in
    let parts = subst (λ (o : Option Tail). IfSome found (λ kind. IsSettledOf a.first rows o local kind)) (sym c.in-Some.is) here in
    subst (λ (z : ZoneParts). IfSome found (λ kind. IsZoneSettled z local kind)) c.self.view_is parts

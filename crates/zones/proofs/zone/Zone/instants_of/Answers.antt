use Rattle.std.proofs.Common.{◌≡◌, ℤ, ◌-ℤ◌, FitsSigned, to_z, of_z, arith, sym, subst}
use mir.Syntax.{w64, w32}
use Rattle.calendar_values.specs.SignedArith.{signed_arith}
use Rattle.zones.specs.declared.local_instants.LocalInstants.TheVariants.{Single}
use Rattle.zones.specs.Zones.{IsZoneInstants, IsZoneSettled}
use Rattle.zones.proofs.zone.Zone.instants_of.Goals as goal

back : (z : ℤ) → FitsSigned w64 z → to_z w64 (of_z w64 z) ≡ z
back z h = omega (arith, signed_arith)

pub returns-in-Some : goal.returns-in-Some
returns-in-Some c =
    let z = c.args.self.now in
    let local = c.args.local in
    let kind = c.in-Some.kind in
    let oi = kind.offset_in in
    let li = c.requires in
    let settled = subst (λ (t : ℤ). IsZoneSettled z t kind) (back local c.ranges.local) c.in-Some.ensures in
    let e : to_z w64 (of_z w64 (to_z w64 (of_z w64 local) -ℤ to_z w64 (of_z w64 (to_z w32 (of_z w32 kind.offset))))) ≡ local -ℤ kind.offset = omega
    (arith, signed_arith) in
    subst (λ (t : ℤ). IsZoneInstants z local (Single t)) (sym e) settled

use Rattle.std.proofs.Common.{◌≡◌, ℤ, Some, None, FitsSigned, to_z, of_z, arith, ap, subst}
use mir.Syntax.{w64, w32}
use Rattle.calendar_values.specs.SignedArith.{signed_arith}
use Rattle.zones.specs.Clocks.{IsBy}
use Rattle.zones.specs.Zones.{ZoneParts, IsZone, IsStartedTransition}
use Rattle.zones.proofs.ZoneLemmas.{before_started, after_started}
use Rattle.zones.proofs.zone.Zone.instants_near.Goals as goal

back : (z : ℤ) → FitsSigned w64 z → to_z w64 (of_z w64 z) ≡ z
back z h = omega (arith, signed_arith)

pub returns-in-None : goal.returns-in-None
returns-in-None c =
    let z = c.args.self.now in
    let zone = subst IsZone c.self.view_is c.self.invariant.0 in
    let local = c.args.local in
    let started = subst (λ (t : ℤ). IsStartedTransition z t None) (back local c.ranges.local) c.in-None.ensures in
    let f = ap (λ (p : ZoneParts). p.first.offset) c.self.view_is in
    let oi = c.self.inside.first.offset_in in
    let li = c.requires in
    let e : to_z w64 (of_z w64 (to_z w32 (of_z w32 c.self.inside.first.offset))) ≡ c.self.inside.first.offset = omega (arith, signed_arith) in
    before_started z zone local _ started (omega (arith, signed_arith))

pub returns-in-Some : goal.returns-in-Some
returns-in-Some c =
    let z = c.args.self.now in
    let zone = subst IsZone c.self.view_is c.self.invariant.0 in
    let local = c.args.local in
    let row = c.in-Some.row in
    let started = subst (λ (t : ℤ). IsStartedTransition z t (Some row)) (back local c.ranges.local) c.in-Some.ensures in
    let by = subst (λ (t : ℤ). IsBy row.second row.before.offset row.after.offset t c.instants_by.result) (back local c.ranges.local)
    c.instants_by.ensures in
    after_started z zone local row c.instants_by.result started by

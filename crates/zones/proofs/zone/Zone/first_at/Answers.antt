use Rattle.std.proofs.Common.{◌≡◌, ℤ, Some, None, FitsSigned, to_z, of_z, arith, sym, ap, subst}
use mir.Syntax.{w64, w32}
use Rattle.calendar_values.specs.SignedArith.{signed_arith}
use Rattle.zones.specs.Zones.{ZoneParts, IsZone, IsZoneFirst, IsStartedTransition}
use Rattle.zones.specs.Clocks.{FirstBy}
use Rattle.zones.specs.Ranges.{IsNear}
use Rattle.zones.proofs.ZoneLemmas.{first_before, first_after_started, near_started}
use Rattle.zones.proofs.zone.Zone.first_at.Goals as goal

back : (z : ℤ) → FitsSigned w64 z → to_z w64 (of_z w64 z) ≡ z
back z h = omega (arith, signed_arith)

pub returns-in-None-clause-first : goal.returns-in-None-clause-first
returns-in-None-clause-first c =
    let z = c.args.self.now in
    let zone = subst IsZone c.self.view_is c.self.invariant.0 in
    let local = c.args.local in
    let started = subst (λ (t : ℤ). IsStartedTransition z t None) (back local c.ranges.local) c.in-None.ensures in
    let f = ap (λ (p : ZoneParts). p.first.offset) c.self.view_is in
    let oi = c.self.inside.first.offset_in in
    let li = c.requires in
    let e : to_z w64 (of_z w64 (to_z w32 (of_z w32 c.self.inside.first.offset))) ≡ c.self.inside.first.offset = omega (arith, signed_arith) in
    first_before z zone local _ started (omega (arith, signed_arith))

pub returns-in-Some-clause-first : goal.returns-in-Some-clause-first
returns-in-Some-clause-first c =
    let z = c.args.self.now in
    let zone = subst IsZone c.self.view_is c.self.invariant.0 in
    let local = c.args.local in
    let row = c.in-Some.row in
    let started = subst (λ (t : ℤ). IsStartedTransition z t (Some row)) (back local c.ranges.local) c.in-Some.ensures in
    let by = subst (λ (t : ℤ). FirstBy row t c.first_by.result) (back local c.ranges.local) c.first_by.ensures.first in
    let low = c.first_by.ensures.low in
    let high = c.first_by.ensures.high in
    let e : to_z w64 (of_z w64 c.first_by.result) ≡ c.first_by.result = omega (arith, signed_arith) in
    subst (IsZoneFirst z local) (sym e) (first_after_started z zone local c.first_by.result row started by)

pub returns-in-None-clause-near : goal.returns-in-None-clause-near
returns-in-None-clause-near c =
    let oi = c.self.inside.first.offset_in in
    let li = c.requires in
    let e : to_z w64 (of_z w64 (to_z w32 (of_z w32 c.self.inside.first.offset))) ≡ c.self.inside.first.offset = omega (arith, signed_arith) in
    (omega (arith, signed_arith), omega (arith, signed_arith))

pub returns-in-Some-clause-near : goal.returns-in-Some-clause-near
returns-in-Some-clause-near c =
    let z = c.args.self.now in
    let zone = subst IsZone c.self.view_is c.self.invariant.0 in
    let local = c.args.local in
    let row = c.in-Some.row in
    let started = subst (λ (t : ℤ). IsStartedTransition z t (Some row)) (back local c.ranges.local) c.in-Some.ensures in
    let by = subst (λ (t : ℤ). FirstBy row t c.first_by.result) (back local c.ranges.local) c.first_by.ensures.first in
    let low = c.first_by.ensures.low in
    let high = c.first_by.ensures.high in
    let e : to_z w64 (of_z w64 c.first_by.result) ≡ c.first_by.result = omega (arith, signed_arith) in
    subst (IsNear local) (sym e) (near_started z zone local c.first_by.result row started by)

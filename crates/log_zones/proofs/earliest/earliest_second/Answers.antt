use Rattle.std.proofs.Common.{◌≡◌, ◌∙◌, ℤ, Some, FitsSigned, to_z, of_z, arith, ap, subst, sym}
use mir.Syntax.{w64}
use Rattle.calendar_values.specs.SignedArith.{signed_arith}
use Rattle.log_zones.proofs.EarliestLemmas.{from_fold, from_gap, from_single, near_fold, near_single}
use Rattle.zones.specs.Ranges.{IsNear}
use Rattle.zones.specs.Seconds.{IsSecond}
use Rattle.zones.specs.Zones.{ZoneParts, IsZone, IsZoneInstants}
use Rattle.zones.specs.declared.local_instants.LocalInstants.{LocalInstants}
use Rattle.log_zones.proofs.earliest.earliest_second.Goals as goal

back : (z : ℤ) → FitsSigned w64 z → to_z w64 (of_z w64 z) ≡ z
back z h = omega (arith, signed_arith)

-- the seconds that are found
found : (z now : ZoneParts) (local : ℤ) (is got : LocalInstants) → z ≡ now → FitsSigned w64 local → is ≡ got
    → IsZoneInstants z (to_z w64 (of_z w64 local)) is → IsZoneInstants now local got
found z now local is got same fits equal h =
    subst (IsZoneInstants now local) equal
    (subst (λ (t : ℤ). IsZoneInstants now t is) (back local fits)
    (subst (λ (parts : ZoneParts). IsZoneInstants parts (to_z w64 (of_z w64 local)) is) same h))

-- a second near a wall clock that zones know fits
fits : (local t : ℤ) → IsSecond local → IsNear local t → to_z w64 (of_z w64 t) ≡ t
fits local t second near = omega (arith, signed_arith, second.0, second.1, near.0, near.1)

pub returns-in-Single-clause-value : goal.returns-in-Single-clause-value
returns-in-Single-clause-value c =
    let local = c.args.local in
    let zone = subst IsZone c.zone-zone.ensures c.first_type.ensures.zone in
    let all = found _ c.args.zone.now local _ _ c.zone-zone.ensures c.ranges.local c.in-Single.is c.instants_of.ensures in
    ap Some (fits local _ c.requires (near_single _ local _ all)) ∙ from_single c.args.zone.now zone local _ all

pub returns-in-Fold-clause-value : goal.returns-in-Fold-clause-value
returns-in-Fold-clause-value c =
    let local = c.args.local in
    let zone = subst IsZone c.zone-zone.ensures c.first_type.ensures.zone in
    let all = found _ c.args.zone.now local _ _ c.zone-zone.ensures c.ranges.local c.in-Fold.is c.instants_of.ensures in
    ap Some (fits local _ c.requires (near_fold _ local _ _ all)) ∙ from_fold c.args.zone.now zone local _ _ all

pub returns-in-Gap-clause-value : goal.returns-in-Gap-clause-value
returns-in-Gap-clause-value c =
    let local = c.args.local in
    let zone = subst IsZone c.zone-zone.ensures c.first_type.ensures.zone in
    let all = found _ c.args.zone.now local _ _ c.zone-zone.ensures c.ranges.local c.in-Gap.is c.instants_of.ensures in
    from_gap c.args.zone.now zone local _ _ _ all

pub returns-in-Single-clause-near : goal.returns-in-Single-clause-near
returns-in-Single-clause-near c =
    let local = c.args.local in
    let all = found _ c.args.zone.now local _ _ c.zone-zone.ensures c.ranges.local c.in-Single.is c.instants_of.ensures in
    let near = near_single c.args.zone.now local _ all in
    subst (IsNear local) (sym (fits local _ c.requires near)) near

pub returns-in-Fold-clause-near : goal.returns-in-Fold-clause-near
returns-in-Fold-clause-near c =
    let local = c.args.local in
    let all = found _ c.args.zone.now local _ _ c.zone-zone.ensures c.ranges.local c.in-Fold.is c.instants_of.ensures in
    let near = near_fold c.args.zone.now local _ _ all in
    subst (IsNear local) (sym (fits local _ c.requires near)) near

use Rattle.std.proofs.Common.{◌≡◌, ℤ, FitsSigned, to_z, of_z, arith, subst, w64}
use Rattle.calendar_values.specs.SignedArith.{signed_arith}
use Rattle.log_zones.proofs.ShowingLemmas.{IsGapNear, ahead_fits, end_fits, end_is, near_gap, never, once, twice}
use Rattle.zones.specs.Zones.{ZoneParts, IsZoneInstants}
use Rattle.zones.specs.declared.local_instants.LocalInstants.{LocalInstants}
use Rattle.zones.specs.declared.local_instants.LocalInstants.TheVariants.{Gap}
use Rattle.log_zones.proofs.showings.showing_at.Goals as goal

back : (z : ℤ) → FitsSigned w64 z → to_z w64 (of_z w64 z) ≡ z
back z h = omega (arith, signed_arith)

-- the seconds that are found
found : (z now : ZoneParts) (local : ℤ) (is got : LocalInstants) → z ≡ now → FitsSigned w64 local → is ≡ got
    → IsZoneInstants z (to_z w64 (of_z w64 local)) is → IsZoneInstants now local got
found z now local is got same fits equal h =
    subst (IsZoneInstants now local) equal
    (subst (λ (t : ℤ). IsZoneInstants now t is) (back local fits)
    (subst (λ (parts : ZoneParts). IsZoneInstants parts (to_z w64 (of_z w64 local)) is) same h))

-- the seconds of a gap
gap : (c : goal.In-Gap) → IsZoneInstants c.args.zone.now c.args.local (Gap c.in-Gap.earlier c.in-Gap.later c.in-Gap.second)
gap c = found _ c.args.zone.now c.args.local _ _ c.zone-zone.ensures c.ranges.local c.in-Gap.is c.instants_of.ensures

near : (c : goal.In-Gap) → IsGapNear c.args.local c.in-Gap.earlier c.in-Gap.later c.in-Gap.second
near c = near_gap c.args.zone.now c.args.local _ _ _ (gap c)

pub overflow_sub-result : goal.overflow_sub-result
overflow_sub-result c = ahead_fits c.args.local c.in-Gap.later c.requires (near c).later

pub overflow_add-result : goal.overflow_add-result
overflow_add-result c = end_fits c.args.local _ _ c.in-Gap.second c.in-Gap.later c.requires (near c) (near c).later

pub overflow_sub-result-in-Gap : goal.overflow_sub-result-in-Gap
overflow_sub-result-in-Gap c = ahead_fits c.args.local c.in-Gap.earlier c.requires (near c).earlier

pub overflow_add-result-in-Gap : goal.overflow_add-result-in-Gap
overflow_add-result-in-Gap c = end_fits c.args.local _ _ c.in-Gap.second c.in-Gap.earlier c.requires (near c) (near c).earlier

pub returns-in-Single : goal.returns-in-Single
returns-in-Single c =
    once c.args.zone.now c.args.local _ (found _ c.args.zone.now c.args.local _ _ c.zone-zone.ensures c.ranges.local c.in-Single.is c.instants_of.ensures)

pub returns-in-Fold : goal.returns-in-Fold
returns-in-Fold c =
    twice c.args.zone.now c.args.local _ _ (found _ c.args.zone.now c.args.local _ _ c.zone-zone.ensures c.ranges.local c.in-Fold.is c.instants_of.ensures)

pub returns-in-Gap : goal.returns-in-Gap
returns-in-Gap c =
    let l = c.args.local in
    never c.args.zone.now l c.in-Gap.earlier c.in-Gap.later c.in-Gap.second _ _ (gap c)
    (end_is l _ _ c.in-Gap.second c.in-Gap.later c.requires (near c) (near c).later)
    (end_is l _ _ c.in-Gap.second c.in-Gap.earlier c.requires (near c) (near c).earlier)

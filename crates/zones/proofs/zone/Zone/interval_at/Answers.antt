use Rattle.std.proofs.Common.{◌≡◌, ℤ, FitsSigned, to_z, of_z, arith, subst}
use mir.Syntax.{w64}
use Rattle.calendar_values.specs.SignedArith.{signed_arith}
use Rattle.zones.specs.Ranges.{IsTailSecond}
use Rattle.zones.specs.Zones.{IsZone, IsZoneType, IsLastTransition, IsNextTransition}
use Rattle.zones.proofs.IntervalLemmas.{interval_of}
use Rattle.zones.proofs.zone.Zone.interval_at.Goals as goal

back : (z : ℤ) → FitsSigned w64 z → to_z w64 (of_z w64 z) ≡ z
back z h = omega (arith, signed_arith)

tail_back : (z : ℤ) → IsTailSecond z → to_z w64 (of_z w64 z) ≡ z
tail_back z h = omega (arith, signed_arith)

pub returns : goal.returns
returns c =
    let z = c.args.self.now in
    let zone = subst IsZone c.self.view_is c.self.invariant.0 in
    let e = back c.args.second c.ranges.second in
    interval_of z zone c.args.second c.requires c.last_transition.result c.next_transition.result c.second_or.result c.second_or-2.result _
    (tail_back c.second_or.result c.second_or.ensures.in_range) (tail_back c.second_or-2.result c.second_or-2.ensures.in_range)
    (subst (λ (t : ℤ). IsLastTransition z t c.last_transition.result) e c.last_transition.ensures)
    (subst (λ (t : ℤ). IsNextTransition z t c.next_transition.result) e c.next_transition.ensures)
    (subst (λ (t : ℤ). IsZoneType z t c.type_at.result) e c.type_at.ensures) c.second_or.ensures.some c.second_or.ensures.none c.second_or-2.ensures.some
    c.second_or-2.ensures.none

use Rattle.std.proofs.Common.{◌≡◌, ℤ, pos, ◌*ℤ◌, to_z, of_z, arith, sym, subst}
use mir.Syntax.{w64}
use Rattle.calendar_values.specs.SignedArith.{signed_arith}
use Rattle.zones.specs.Zones.{IsZoneFirst}
use Rattle.zones.proofs.zone.Zone.start_of_day.Goals as goal

pub returns-clause-start : goal.returns-clause-start
returns-clause-start c =
    let z = c.args.self.now in
    let d = c.requires in
    let local : to_z w64 (of_z w64 (c.args.day *ℤ pos 86_400)) ≡ c.args.day *ℤ pos 86_400 = omega (arith, signed_arith) in
    let local2 : to_z w64 (of_z w64 (to_z w64 (of_z w64 c.args.day) *ℤ pos 86_400)) ≡ c.args.day *ℤ pos 86_400 = omega (arith, signed_arith) in
    let low = c.first_at.ensures.low in
    let high = c.first_at.ensures.high in
    let e : to_z w64 (of_z w64 c.first_at.result) ≡ c.first_at.result = omega (arith, signed_arith) in
    subst (IsZoneFirst z (c.args.day *ℤ pos 86_400)) (sym e) (subst (λ (l : ℤ). IsZoneFirst z l c.first_at.result) local2 c.first_at.ensures.first)

pub returns-clause-near : goal.returns-clause-near
returns-clause-near c =
    let d = c.requires in
    let local : to_z w64 (of_z w64 (c.args.day *ℤ pos 86_400)) ≡ c.args.day *ℤ pos 86_400 = omega (arith, signed_arith) in
    let local2 : to_z w64 (of_z w64 (to_z w64 (of_z w64 c.args.day) *ℤ pos 86_400)) ≡ c.args.day *ℤ pos 86_400 = omega (arith, signed_arith) in
    let low = c.first_at.ensures.low in
    let high = c.first_at.ensures.high in
    let near = c.first_at.ensures.near in
    let e : to_z w64 (of_z w64 c.first_at.result) ≡ c.first_at.result = omega (arith, signed_arith) in
    (omega (arith, signed_arith), omega (arith, signed_arith))

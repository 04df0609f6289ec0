use Rattle.std.proofs.Common.{◌≡◌, ℤ, pos, ◌+ℤ◌, to_z, of_z, arith, subst}
use mir.Syntax.{w64}
use Rattle.calendar_values.specs.SignedArith.{signed_arith}
use Rattle.zones.specs.Zones.{IsDayStart}
use Rattle.zones.proofs.zone.Zone.length_of_day.Goals as goal

pub returns : goal.returns
returns c =
    let z = c.args.self.now in
    let d = c.requires.day in
    let d2 = c.requires.next in
    let today : to_z w64 (of_z w64 c.args.day) ≡ c.args.day = omega (arith, signed_arith) in
    let next : to_z w64 (of_z w64 (to_z w64 (of_z w64 c.args.day) +ℤ pos 1)) ≡ c.args.day +ℤ pos 1 = omega (arith, signed_arith) in
    let l1 = c.start_of_day.ensures.low in
    let h1 = c.start_of_day.ensures.high in
    let l2 = c.start_of_day-2.ensures.low in
    let h2 = c.start_of_day-2.ensures.high in (
      c.start_of_day-2.result,
      c.start_of_day.result,
      subst (λ (d : ℤ). IsDayStart z d c.start_of_day-2.result) today c.start_of_day-2.ensures.start,
      subst (λ (d : ℤ). IsDayStart z d c.start_of_day.result) next c.start_of_day.ensures.start,
      omega (arith, signed_arith),
    )

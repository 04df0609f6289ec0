use Rattle.std.proofs.Common.{◌≡◌, pos, ◌+ℤ◌, ◌-ℤ◌, to_z, of_z, arith, ap, ◌∙◌}
use mir.Syntax.{w64}
use Rattle.calendar_values.specs.SignedArith.{signed_arith}
use Rattle.zones.specs.Cycles.{cycle_type}
use Rattle.zones.proofs.cycle.Cycle.settled_type.Goals as goal

pub returns-in-Some : goal.returns-in-Some
returns-in-Some c =
    let m = c.in-Some.moment in
    let found = c.in-Some.ensures in
    let ml = found.0.0 in
    let mh = found.0.1 in
    let begun = found.1 in
    let ahead = found.2 in
    let hi = c.high.ensures.in_range in
    let h0 = hi.0 in
    let h1 = hi.1 in
    let li = c.low.ensures.in_range in
    let l0 = li.0 in
    let l1 = li.1 in
    let hv = c.high.ensures.value in
    let lv = c.low.ensures.value in
    let high : to_z w64 (of_z w64 (to_z w64 (of_z w64 c.args.local) -ℤ to_z w64 (of_z w64 c.high.result))) ≡ c.args.local -ℤ c.high.result = omega
    (arith, signed_arith) in
    let low : to_z w64 (of_z w64 (to_z w64 (of_z w64 c.args.local) -ℤ to_z w64 (of_z w64 c.low.result))) ≡ c.args.local -ℤ c.low.result = omega
    (arith, signed_arith) in
    let next : to_z w64 (of_z w64 (to_z w64 (of_z w64 m) +ℤ pos 1)) ≡ m +ℤ pos 1 = omega (arith, signed_arith) in (
      m,
      found.0,
      omega (arith, signed_arith),
      omega (arith, signed_arith),
      c.type_before.ensures ∙ ap (cycle_type c.args.self) next,
    )

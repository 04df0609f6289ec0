use Rattle.std.proofs.Common.{◌≡◌, ℤ, pos, ◌+ℤ◌, ◌-ℤ◌, to_z, of_z, arith, ap}
use mir.Syntax.{w64}
use Rattle.calendar_values.specs.SignedArith.{signed_arith}
use Rattle.zones.specs.Cycles.{cycle_second}
use Rattle.zones.proofs.cycle.Cycle.last_start_at.Goals as goal

pub returns-clause-begun : goal.returns-clause-begun
returns-clause-begun c =
    let low = c.last_at.ensures.low in
    let high = c.last_at.ensures.high in
    let back : to_z w64 (of_z w64 c.last_at.result) ≡ c.last_at.result = omega (arith, signed_arith) in
    let sub : to_z w64 (of_z w64 (to_z w64 (of_z w64 c.args.local) -ℤ to_z w64 (of_z w64 c.low.result))) ≡ c.args.local -ℤ c.low.result = omega
    (arith, signed_arith) in
    let t = ap (cycle_second c.args.self) back in
    let b = c.last_at.ensures.begun in
    omega (arith, signed_arith)

pub returns-clause-not_next : goal.returns-clause-not_next
returns-clause-not_next c =
    let low = c.last_at.ensures.low in
    let high = c.last_at.ensures.high in
    let back : to_z w64 (of_z w64 c.last_at.result) ≡ c.last_at.result = omega (arith, signed_arith) in
    let sub : to_z w64 (of_z w64 (to_z w64 (of_z w64 c.args.local) -ℤ to_z w64 (of_z w64 c.low.result))) ≡ c.args.local -ℤ c.low.result = omega
    (arith, signed_arith) in
    let t = ap (λ (z : ℤ). cycle_second c.args.self (z +ℤ pos 1)) back in
    let b = c.last_at.ensures.not_next in
    omega (arith, signed_arith)

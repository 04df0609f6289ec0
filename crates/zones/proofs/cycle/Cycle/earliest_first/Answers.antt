use Rattle.std.proofs.Common.{◌≡◌, ◌-ℤ◌, to_z, of_z, arith}
use mir.Syntax.{w64, w32}
use Rattle.calendar_values.specs.SignedArith.{signed_arith}
use Rattle.zones.proofs.MonthsLemmas.{first_in}
use Rattle.zones.proofs.cycle.Cycle.earliest_first.Goals as goal

pub returns-clause-near : goal.returns-clause-near
returns-clause-near c = λ y.
    let h = c.earliest.ensures in
    let least = h.low in
    let most = h.high in
    let oi = c.args.self.after_second.offset_in in
    let sum : to_z w64 (of_z w64 (to_z w64 (of_z w64 c.earliest.result) -ℤ to_z w64 (of_z w64 (to_z w32 (of_z w32 c.args.self.after_second.offset)))))
    ≡ c.earliest.result -ℤ c.args.self.after_second.offset = omega (arith, signed_arith) in
    let near = h.near y in
    let low = near.0 in
    let high = near.1 in
    let is = first_in c.args.self y in
    (omega (arith, signed_arith), omega (arith, signed_arith))

use Rattle.std.proofs.Common.{◌≡◌, pos, ◌+ℤ◌, ◌*ℤ◌, to_z, of_z, arith}
use mir.Syntax.{w64, w32}
use Rattle.calendar_values.specs.SignedArith.{signed_arith}
use Rattle.zones.proofs.CycleLemmas.{local_second_is}
use Rattle.zones.proofs.moment.Moment.earliest.Goals as goal

pub returns-clause-near : goal.returns-clause-near
returns-clause-near c = λ y.
    let h = c.earliest.ensures in
    let least = h.least in
    let most = h.most in
    let ti = c.args.self.time_in in
    let p : to_z w64 (of_z w64 (to_z w64 (of_z w64 c.earliest.result) *ℤ pos 86400)) ≡ c.earliest.result *ℤ pos 86400 = omega (arith, signed_arith) in
    let t : to_z w64 (of_z w64 (to_z w32 (of_z w32 c.args.self.time))) ≡ c.args.self.time = omega (arith, signed_arith) in
    let sum : to_z w64 (of_z w64 (to_z w64 (of_z w64 (to_z w64 (of_z w64 c.earliest.result) *ℤ pos 86400)) +ℤ to_z w64
    (of_z w64 (to_z w32 (of_z w32 c.args.self.time))))) ≡ c.earliest.result *ℤ pos 86400 +ℤ c.args.self.time = omega (arith, signed_arith) in
    let low = h.low y in
    let high = h.high y in
    let is = local_second_is c.args.self y in
    (omega (arith, signed_arith), omega (arith, signed_arith))

use Rattle.std.proofs.Common.{arith}
use Rattle.std.proofs.lemmas.Int.{clamps}
use Rattle.calendar_values.specs.SignedArith.{signed_arith}
use Rattle.zones.proofs.cycle.Cycle.low.Goals as goal

pub returns-clause-in_range : goal.returns-clause-in_range
returns-clause-in_range c =
    let a = c.args.self.after_first.offset_in in
    let b = c.args.self.after_second.offset_in in
    let v = c.min.ensures.value in
    (omega (arith, signed_arith, clamps), omega (arith, signed_arith, clamps))

use Rattle.std.proofs.Common.{arith}
use Rattle.calendar_values.specs.SignedArith.{signed_arith}
use Rattle.zones.proofs.FarLemmas.{far_in_all}
use Rattle.zones.proofs.cycle.Cycle.is_far_apart.Goals as goal

pub returns : goal.returns
returns c =
    let l0 = c.second_of-first.ensures.low in
    let h0 = c.second_of-first.ensures.high in
    let l1 = c.second_of-second.ensures.low in
    let h1 = c.second_of-second.ensures.high in
    let l2 = c.second_of.ensures.low in
    let h2 = c.second_of.ensures.high in
    let v0 = c.second_of-first.ensures.value in
    let v1 = c.second_of-second.ensures.value in
    let v2 = c.second_of.ensures.value in
    λ t. far_in_all c.args.self (omega (arith, signed_arith)) (omega (arith, signed_arith))

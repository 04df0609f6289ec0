use Rattle.std.proofs.Common.{◌≡◌, pos, neg_ℤ, ◌+ℤ◌, ◌≤ℤ◌, to_z, of_z, arith}
use mir.Syntax.{w64}
use Rattle.calendar_values.specs.SignedArith.{signed_arith}
use Rattle.zones.proofs.cycle.year_near.Goals as goal

pub returns : goal.returns
returns c =
    let q0 : neg_ℤ (pos 1_096_000) ≤ℤ c.div_euclid.result = omega (arith, signed_arith) in
    let q1 : c.div_euclid.result ≤ℤ pos 1_096_000 = omega (arith, signed_arith) in
    let a : to_z w64 (of_z w64 (pos 1970 +ℤ to_z w64 (of_z w64 c.div_euclid.result))) ≡ pos 1970 +ℤ c.div_euclid.result = omega (arith, signed_arith) in
    (omega (arith, signed_arith), omega (arith, signed_arith))

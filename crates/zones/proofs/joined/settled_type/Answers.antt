use Rattle.std.proofs.Common.{◌≡◌, ℤ, ◌+ℤ◌, ◌≤ℤ◌, Some, FitsSigned, to_z, of_z, arith, subst}
use mir.Syntax.{w64}
use Rattle.std.specs.Prelude.{IfSome}
use Rattle.calendar_values.specs.SignedArith.{signed_arith}
use Rattle.zones.specs.Cycles.{low_offset, IsSettled}
use Rattle.zones.specs.Zones.{tail_second, IsSettledOf}
use Rattle.zones.proofs.SettledLemmas.{some_map, settled_in}
use Rattle.zones.proofs.joined.settled_type.Goals as goal

back : (z : ℤ) → FitsSigned w64 z → to_z w64 (of_z w64 z) ≡ z
back z h = omega (arith, signed_arith)

pub returns : goal.returns
returns c =
    let first = c.args.first in
    let rows = c.args.rows.now in
    let tail = c.args.tail in
    let local = c.args.local in
    let j = c.requires.joined in
    let from = j.from_local_is in
    let fr = tail.from_local_in in
    let begun : (tail_second tail 0 +ℤ low_offset tail.cycle) ≤ℤ local = omega (arith, signed_arith) in
    let found = subst (λ (t : ℤ). IfSome c.settled_type.result (λ kind. IsSettled tail.cycle t kind)) (back local c.ranges.local) c.settled_type.ensures in
    some_map c.settled_type.result (λ kind. IsSettled tail.cycle local kind) (λ kind. IsSettledOf first rows (Some tail) local kind)
    (λ kind h. settled_in first rows tail j local begun kind h) found

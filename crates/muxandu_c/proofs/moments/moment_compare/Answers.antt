use Rattle.std.specs.Ordering.{int_cmp}
use Rattle.std.proofs.Common.{◌≡◌, w32, to_z, of_z}
use Rattle.muxandu_c.specs.InsideMoments.{instant_of_moment}
use Rattle.muxandu_c.specs.Values.{sign_of}
use Rattle.muxandu_c.proofs.InsideMomentLemmas.{moment_compare-inside, sign-back}
use Rattle.muxandu_c.proofs.moments.moment_compare.Goals as goal

pub returns-then-is_inside-2 : goal.returns-then-is_inside-2
returns-then-is_inside-2 c =
    let order = int_cmp (instant_of_moment c.args.first) (instant_of_moment c.args.second) in
    let back : to_z w32 (of_z w32 c.order_inside.result) ≡ sign_of order = rw c.order_inside.ensures (sign-back order) in
    moment_compare-inside c.args.first c.args.second (to_z w32 (of_z w32 c.order_inside.result))
    (c.is_inside.ensures.0 c.if-is_inside.true) (c.is_inside-then-is_inside.ensures.0 c.if-is_inside-2.true) back

use Rattle.std.proofs.Common.{◌≡◌, rules, w32, w64, to_z, of_z}
use Rattle.muxandu_c.proofs.InsideMomentLemmas.{moment_add-inside}
use Rattle.muxandu_c.proofs.moments.moment_add.Goals as goal

pub returns-then-is_inside-2 : goal.returns-then-is_inside-2
returns-then-is_inside-2 c =
    let seconds : to_z w64 (of_z w64 c.args.duration.seconds) ≡ c.args.duration.seconds = search rules in
    let nanoseconds : to_z w32 (of_z w32 c.args.duration.nanoseconds) ≡ c.args.duration.nanoseconds = search rules in
    moment_add-inside c.args.at c.later_by-sum.result c.args.duration (c.is_inside.ensures.0 c.if-is_inside.true)
    (c.is_short.ensures.0 c.if-is_short.true) (rw (seconds, nanoseconds) at c.later_by-sum.ensures)
    (c.is_inside-then-is_short.ensures.0 c.if-is_inside-2.true)

use Rattle.std.proofs.Common.{◌≡◌, rules, w32, w64, to_z, of_z}
use Rattle.muxandu_c.proofs.InsideMomentLemmas.{one-sign, one-apart}
use Rattle.muxandu_c.proofs.inside_moments.borrowed_seconds.Goals as goal

pub returns-clause-one_sign : goal.returns-clause-one_sign
returns-clause-one_sign c =
    let seconds : to_z w64 (of_z w64 c.args.seconds) ≡ c.args.seconds = search rules in
    let nanoseconds : to_z w32 (of_z w32 c.args.nanoseconds) ≡ c.args.nanoseconds = search rules in
    let a = c.taken_from_positive.ensures in
    let b = c.added_to_negative.ensures in
    rw (one-apart c.taken_from_positive.result c.added_to_negative.result a.at_least a.at_most b.at_least b.at_most)
    (one-sign c.args.seconds c.args.nanoseconds c.taken_from_positive.result c.added_to_negative.result c.requires.least c.requires.most
    (rw (seconds, nanoseconds) at a.one) (rw seconds at a.no_second) (rw nanoseconds at a.no_part)
    (rw (seconds, nanoseconds) at b.one) (rw seconds at b.no_second) (rw nanoseconds at b.no_part))

use Rattle.muxandu_c.proofs.InsideMomentLemmas.{moment_subtract-inside, short-negative, negative64, negative32}
use Rattle.muxandu_c.proofs.moments.moment_subtract.Goals as goal

pub later_by-less-requires-clause-short : goal.later_by-less-requires-clause-short
later_by-less-requires-clause-short c =
    let s = c.args.duration.seconds in
    let n = c.args.duration.nanoseconds in
    let h = c.is_short.ensures.0 c.if-is_short.true in
    rw (negative64 s h.least h.most, negative32 n h.least_part h.most_part) (short-negative s n h)

pub returns-then-is_inside-2 : goal.returns-then-is_inside-2
returns-then-is_inside-2 c =
    let s = c.args.duration.seconds in
    let n = c.args.duration.nanoseconds in
    let h = c.is_short.ensures.0 c.if-is_short.true in
    moment_subtract-inside c.args.at c.later_by-less.result c.args.duration (c.is_inside.ensures.0 c.if-is_inside.true) h
    (rw (negative64 s h.least h.most, negative32 n h.least_part h.most_part) at c.later_by-less.ensures)
    (c.is_inside-then-is_short.ensures.0 c.if-is_inside-2.true)

use Rattle.std.proofs.Common.{arith, refl, sym, ◌∙◌, ◌<◌, length}
use Rattle.muxandu_c.specs.Gaps.{has_gap}
use Rattle.muxandu_c.proofs.GapLemmas.{count_by-pair_yes, count_by-pair_no, count_by-pairs_all}
use Rattle.muxandu_c.proofs.gap_batches.gaps_in_pairs.Goals as goal
use Rattle.muxandu_c.proofs.gap_batches.gaps_in_pairs.Goals.{then-have_gap, else-have_gap}

pub loop-k-preserved : goal.loop-k-preserved
loop-k-preserved g c =
    let test = has_gap g.B.Row.gap_test in
    let firsts = c.args.firsts.now in
    let seconds = c.args.seconds.now in
    let before = c.loop-k.invariant in
    let low = c.loop-k-test.true in
    let pairs = before.pairs in
    let at_most = before.at_most in
    let low_second : c.loop-k.k < length seconds = omega (arith, pairs, low) in
    elim c.if-have_gap.branch [
      | then-have_gap w ↦ rw w.gaps-is record {
        gaps =
            count_by-pair_yes test firsts seconds c.loop-k.k _ _ _ _ _ low low_second refl c.index-seconds-k.is
            (sym c.have_gap.ensures ∙ w.if-have_gap.true) before.gaps;
        at_most = omega (arith, at_most);
        pairs = pairs;
      }
      | else-have_gap w ↦ rw w.gaps-is record {
        gaps =
            count_by-pair_no test firsts seconds c.loop-k.k _ _ _ _ _ low low_second refl c.index-seconds-k.is
            (sym c.have_gap.ensures ∙ w.if-have_gap.false) before.gaps;
        at_most = omega (arith, at_most);
        pairs = pairs;
      }
    ]

pub returns : goal.returns
returns g c =
    count_by-pairs_all (has_gap g.B.Row.gap_test) c.args.firsts.now c.args.seconds.now c.loop-k.k c.loop-k.gaps c.loop-k-test.false
    c.loop-k.invariant.gaps

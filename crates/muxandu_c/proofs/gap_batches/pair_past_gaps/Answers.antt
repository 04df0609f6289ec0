use Rattle.std.proofs.Common.{arith, ◌≤◌, length, length-take-le, sym}
use Rattle.muxandu_c.specs.Gaps.{past_gaps}
use Rattle.muxandu_c.proofs.GapLemmas.{length-pair_values}
use Rattle.muxandu_c.proofs.gap_batches.pair_past_gaps.Goals as goal

pub slice_bounds-gaps_in_pairs-end : goal.slice_bounds-gaps_in_pairs-end
slice_bounds-gaps_in_pairs-end g c =
    let firsts = c.args.firsts.now in
    let batch = c.pair_all-batch in
    let values = length-pair_values (past_gaps g.B.Row.gap_test c.args.mark (g.P.Pairing.value_of c.args.pairing)) c.args.out.now firsts c.args.seconds.now in
    let count = batch.ensures.count in
    let low : batch.result.count ≤ length firsts = omega (arith, values.0, count) in
    sym (length-take-le batch.result.count firsts low)

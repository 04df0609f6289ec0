use Rattle.std.proofs.Common.{arith, ◌≤◌, length, length-take-le, sym}
use Rattle.muxandu_c.specs.Gaps.{past_gap}
use Rattle.muxandu_c.proofs.GapLemmas.{length-batch_values}
use Rattle.muxandu_c.proofs.gap_batches.convert_past_gaps.Goals as goal

pub slice_bounds-gaps_in-end : goal.slice_bounds-gaps_in-end
slice_bounds-gaps_in-end g c =
    let moments = c.args.moments.now in
    let batch = c.convert_all-batch in
    let values = length-batch_values (past_gap c.args.mark (g.C.Conversion.value_of c.args.conversion)) c.args.out.now moments in
    let count = batch.ensures.count in
    let low : batch.result.count ≤ length moments = omega (arith, values, count) in
    sym (length-take-le batch.result.count moments low)

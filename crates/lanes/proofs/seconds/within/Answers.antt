use Rattle.std.proofs.Common.{rules, Fits, w32}
use Rattle.lanes.proofs.LaneLemmas.{four, lanes1-same_if}
use Rattle.lanes.proofs.MarchYearLemmas.{within-lane}
use Rattle.lanes.proofs.seconds.within.Goals as goal

pub returns : goal.returns
returns c =
    let written = four c.args.numbers c.fits-numbers.0 in
    let fits = rw written at c.fits-numbers.1 in
    rw written (lanes1-same_if (Fits w32) _ _ c.args.numbers (within-lane c.args.first c.args.last c.requires (search rules)) fits)

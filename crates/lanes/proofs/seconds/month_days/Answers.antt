use Rattle.std.proofs.Common.{◌≤◌}
use Rattle.lanes.proofs.LaneLemmas.{four, lanes1-same_if}
use Rattle.lanes.proofs.MarchYearLemmas.{days_from_march-lane}
use Rattle.lanes.proofs.seconds.month_days.Goals as goal

pub returns : goal.returns
returns c =
    let written = four c.args.month c.fits-month.0 in
    let months = rw written at c.requires in
    rw written (lanes1-same_if (λ m. (1 ≤ m) × (m ≤ 12)) _ _ c.args.month days_from_march-lane months)

use Rattle.std.proofs.Common.{◌<◌, arith}
use Rattle.lanes.proofs.LaneLemmas.{four, lanes1-same_if}
use Rattle.lanes.proofs.MarchYearLemmas.{days_to_march-lane}
use Rattle.lanes.proofs.seconds.march_days.Goals as goal

pub nonzero_div-century : goal.nonzero_div-century
nonzero_div-century c = rw (four c.args.march c.fits-march.0) (omega arith, (omega arith, (omega arith, (omega arith, tt))))

pub returns : goal.returns
returns c =
    let written = four c.args.march c.fits-march.0 in
    let years = rw written at c.requires in
    rw written (lanes1-same_if (λ y. y < 2_000_000) _ _ c.args.march days_to_march-lane years)

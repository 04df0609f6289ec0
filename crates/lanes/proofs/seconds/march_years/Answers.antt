use Rattle.lanes.proofs.LaneLemmas.{four, lanes2-same}
use Rattle.lanes.proofs.MarchYearLemmas.{march_year-lane}
use Rattle.lanes.proofs.seconds.march_years.Goals as goal

pub returns : goal.returns
returns c = rw (four c.args.years c.fits-years.0, four c.args.month c.fits-month.0) (lanes2-same _ _ c.args.years c.args.month march_year-lane)

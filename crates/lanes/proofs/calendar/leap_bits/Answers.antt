use Rattle.lanes.proofs.LaneLemmas.{four, lanes2-same}
use Rattle.lanes.proofs.YearLaneLemmas.{leap-lane}
use Rattle.lanes.proofs.calendar.leap_bits.Goals as goal

pub returns : goal.returns
returns c = rw (four c.args.years c.fits-years.0, four c.args.julian c.fits-julian.0) (lanes2-same _ _ c.args.years c.args.julian leap-lane)

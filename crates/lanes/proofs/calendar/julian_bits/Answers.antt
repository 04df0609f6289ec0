use Rattle.lanes.proofs.LaneLemmas.{four, lanes2-same}
use Rattle.lanes.proofs.YearLaneLemmas.{julian-lane}
use Rattle.lanes.proofs.calendar.julian_bits.Goals as goal

pub returns : goal.returns
returns c =
    rw (four c.args.century c.fits-century.0, four c.args.fraction c.fits-fraction.0) (lanes2-same _ _ c.args.century c.args.fraction julian-lane)

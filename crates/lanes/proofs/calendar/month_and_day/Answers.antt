use Rattle.lanes.specs.YearLanes.{IsOrdinalLane}
use Rattle.lanes.proofs.LaneLemmas.{four, lanes2-same_if}
use Rattle.lanes.proofs.YearLaneLemmas.{month-lane, day-lane}
use Rattle.lanes.proofs.calendar.month_and_day.Goals as goal

pub returns-clause-month : goal.returns-clause-month
returns-clause-month c =
    let lanes = rw (four c.args.leap c.fits-leap.0, four c.args.ordinal c.fits-ordinal.0) at c.requires in
    rw (four c.args.leap c.fits-leap.0, four c.args.ordinal c.fits-ordinal.0)
    (lanes2-same_if IsOrdinalLane _ _ c.args.leap c.args.ordinal month-lane lanes)

pub returns-clause-day : goal.returns-clause-day
returns-clause-day c =
    let lanes = rw (four c.args.leap c.fits-leap.0, four c.args.ordinal c.fits-ordinal.0) at c.requires in
    rw (four c.args.leap c.fits-leap.0, four c.args.ordinal c.fits-ordinal.0)
    (lanes2-same_if IsOrdinalLane _ _ c.args.leap c.args.ordinal day-lane lanes)

use Rattle.calendar_values.specs.Reciprocal.{IsShiftedDay}
use Rattle.lanes.proofs.LaneLemmas.{four, lanes1-same_if}
use Rattle.lanes.proofs.YearLaneLemmas.{julian_count-lane}
use Rattle.lanes.proofs.calendar.julian_counts.Goals as goal

pub returns : goal.returns
returns c =
    let written = four c.args.day c.fits-day.0 in
    let days = rw written at c.requires.days in
    rw (c.requires.century, written) (lanes1-same_if IsShiftedDay _ _ c.args.day julian_count-lane days)

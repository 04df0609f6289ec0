use Rattle.std.proofs.Common.{◌<◌}
use Rattle.lanes.proofs.LaneLemmas.{four, lanes1-same_if}
use Rattle.lanes.proofs.YearLaneLemmas.{hour-lane, minute-lane, second-lane}
use Rattle.lanes.proofs.calendar.clocks.Goals as goal

pub returns-clause-hour : goal.returns-clause-hour
returns-clause-hour c =
    let written = four c.args.second c.fits-second.0 in
    let seconds = rw written at c.requires in
    rw written (lanes1-same_if (λ s. s < 86_400) _ _ c.args.second hour-lane seconds)

pub returns-clause-minute : goal.returns-clause-minute
returns-clause-minute c =
    let written = four c.args.second c.fits-second.0 in
    let seconds = rw written at c.requires in
    rw written (lanes1-same_if (λ s. s < 86_400) _ _ c.args.second minute-lane seconds)

pub returns-clause-second : goal.returns-clause-second
returns-clause-second c =
    let written = four c.args.second c.fits-second.0 in
    let seconds = rw written at c.requires in
    rw written (lanes1-same_if (λ s. s < 86_400) _ _ c.args.second second-lane seconds)

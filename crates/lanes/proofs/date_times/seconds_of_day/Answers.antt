use Rattle.std.proofs.Common.{refl}
use Rattle.lanes.proofs.LaneLemmas.{four}
use Rattle.lanes.proofs.date_times.seconds_of_day.Goals as goal

pub returns : goal.returns
returns c = rw (four c.args.day c.fits-day.0, four c.args.low c.fits-low.0) refl

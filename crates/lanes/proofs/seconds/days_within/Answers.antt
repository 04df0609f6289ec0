use Rattle.std.proofs.Common.{Fits, w32, ◌<◌, ◌^◌}
use Rattle.lanes.proofs.LaneLemmas.{four, lanes2-same_if, Lanes2-each}
use Rattle.lanes.proofs.MarchYearLemmas.{day-lane}
use Rattle.lanes.proofs.seconds.days_within.Goals as goal

pub returns : goal.returns
returns c =
    let days = four c.args.day c.fits-day.0 in
    let lengths = four c.args.length c.fits-length.0 in
    let fits = rw days at c.fits-day.1 in
    let below = rw lengths at c.requires in
    rw (days, lengths) (lanes2-same_if (λ d l. Fits w32 d × (l < 2 ^ 31)) _ _ c.args.day c.args.length day-lane
    (Lanes2-each (Fits w32) (λ l. l < 2 ^ 31) c.args.day c.args.length fits below))

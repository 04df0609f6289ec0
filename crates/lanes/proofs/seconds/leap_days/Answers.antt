use Rattle.std.proofs.Common.{Fits, w32, arith, ◌<◌}
use Rattle.lanes.proofs.LaneLemmas.{four, lanes2-same_if, Lanes2-second, Lanes1-all}
use Rattle.lanes.proofs.MarchYearLemmas.{leap_day-lane}
use Rattle.lanes.proofs.seconds.leap_days.Goals as goal

pub nonzero_div-is_last : goal.nonzero_div-is_last
nonzero_div-is_last c = rw (four c.args.march c.fits-march.0) (omega arith, (omega arith, (omega arith, (omega arith, tt))))

pub returns : goal.returns
returns c =
    let written = four c.args.march c.fits-march.0 in
    let fits = rw written at c.fits-march.1 in
    rw (four c.args.years c.fits-years.0, written)
    (lanes2-same_if (λ y n. Fits w32 n) _ _ c.args.years c.args.march leap_day-lane (Lanes2-second (Fits w32) c.args.years c.args.march fits))

use Rattle.std.proofs.Common.{◌/◌, ◌%◌, ◌^◌, Fits, w32, w64, refl, bit_and}
use Rattle.lanes.proofs.LaneLemmas.{four, Lanes1-all, Lanes1-weaker, lanes1-same}
use Rattle.lanes.proofs.YearLaneLemmas.{high-fits, low-fits, low-is}
use Rattle.lanes.proofs.calendar.whole_and_fraction.Goals as goal

pub overflow_cast-result : goal.overflow_cast-result
overflow_cast-result c =
    let written = four c.args.scaled c.fits-scaled.0 in
    let fits = rw written at c.fits-scaled.1 in
    rw written (Lanes1-weaker (Fits w64) (λ x. Fits w32 (x / 2 ^ 32)) c.args.scaled high-fits fits)

pub overflow_cast-result-2 : goal.overflow_cast-result-2
overflow_cast-result-2 c = rw (four c.args.scaled c.fits-scaled.0) (Lanes1-all (λ x. Fits w32 (bit_and x 4_294_967_295)) c.args.scaled low-fits)

pub returns-clause-high : goal.returns-clause-high
returns-clause-high c = rw (four c.args.scaled c.fits-scaled.0) refl

pub returns-clause-low : goal.returns-clause-low
returns-clause-low c =
    rw (four c.args.scaled c.fits-scaled.0) (lanes1-same (λ x. bit_and x 4_294_967_295) (λ x. x % 2 ^ 32) c.args.scaled low-is)

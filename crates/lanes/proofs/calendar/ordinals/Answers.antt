use Rattle.std.proofs.Common.{◌*◌, ◌/◌, ◌^◌, ◌≤◌, Fits, w32, w64}
use Rattle.lanes.proofs.LaneLemmas.{four, Lanes1-weaker, Lanes2-both, lanes2-same_if}
use Rattle.lanes.proofs.YearLaneLemmas.{ordinal-fits, ordinal_before-fits, ordinal-lane}
use Rattle.lanes.proofs.calendar.ordinals.Goals as goal

pub overflow_mul-result : goal.overflow_mul-result
overflow_mul-result c =
    let written = four c.args.fraction c.fits-fraction.0 in
    let fits = rw written at c.fits-fraction.1 in
    rw written (Lanes1-weaker (Fits w32) (λ f. Fits w64 (f * 1_461)) c.args.fraction ordinal-fits fits)

pub overflow_cast-result-2 : goal.overflow_cast-result-2
overflow_cast-result-2 c =
    let written = four c.args.fraction c.fits-fraction.0 in
    let fits = rw written at c.fits-fraction.1 in
    rw written (Lanes1-weaker (Fits w32) (λ f. Fits w32 (f * 1_461 / 2 ^ 34)) c.args.fraction ordinal_before-fits fits)

pub returns : goal.returns
returns c =
    let fractions = four c.args.fraction c.fits-fraction.0 in
    let bits = four c.args.julian c.fits-julian.0 in
    let fits = rw fractions at c.fits-fraction.1 in
    let low = rw (fractions, bits) at c.requires in
    rw (fractions, bits) (lanes2-same_if (λ f b. Fits w32 f × (b ≤ 1)) _ _ c.args.fraction c.args.julian ordinal-lane
    (Lanes2-both (Fits w32) (λ f b. b ≤ 1) c.args.fraction c.args.julian fits low))

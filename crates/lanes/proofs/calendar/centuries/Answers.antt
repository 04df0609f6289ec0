use Rattle.std.proofs.Common.{◌*◌, ◌∙◌, Fits, w64, refl}
use Rattle.calendar_values.specs.Reciprocal.{IsShiftedDay}
use Rattle.lanes.proofs.LaneLemmas.{four, Lanes1-weaker}
use Rattle.lanes.proofs.YearLaneLemmas.{century-fits}
use Rattle.lanes.proofs.calendar.centuries.Goals as goal

pub overflow_mul-day : goal.overflow_mul-day
overflow_mul-day c =
    let written = four c.args.day c.fits-day.0 in
    let days = rw written at c.requires in
    rw written (Lanes1-weaker IsShiftedDay (λ d. Fits w64 (d * 3_853_261_555)) c.args.day century-fits days)

pub returns-clause-century : goal.returns-clause-century
returns-clause-century c = c.whole_and_fraction.ensures.high ∙ rw (four c.args.day c.fits-day.0) refl

pub returns-clause-fraction : goal.returns-clause-fraction
returns-clause-fraction c = c.whole_and_fraction.ensures.low ∙ rw (four c.args.day c.fits-day.0) refl

use Rattle.std.proofs.Common.{◌*◌, ◌∙◌, Fits, w64, refl}
use Rattle.calendar_values.specs.Reciprocal.{IsJulianCount}
use Rattle.lanes.proofs.LaneLemmas.{four, Lanes1-weaker}
use Rattle.lanes.proofs.YearLaneLemmas.{year-fits}
use Rattle.lanes.proofs.calendar.julian_years.Goals as goal

pub overflow_mul-julian_day : goal.overflow_mul-julian_day
overflow_mul-julian_day c =
    let written = four c.args.julian_day c.fits-julian_day.0 in
    let days = rw written at c.requires in
    rw written (Lanes1-weaker IsJulianCount (λ d. Fits w64 (d * 3_010_298_776)) c.args.julian_day year-fits days)

pub returns-clause-year : goal.returns-clause-year
returns-clause-year c = c.whole_and_fraction.ensures.high ∙ rw (four c.args.julian_day c.fits-julian_day.0) refl

pub returns-clause-fraction : goal.returns-clause-fraction
returns-clause-fraction c = c.whole_and_fraction.ensures.low ∙ rw (four c.args.julian_day c.fits-julian_day.0) refl

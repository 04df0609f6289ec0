use Rattle.std.proofs.Common.{◌≤◌, ◌∙◌, refl}
use Rattle.calendar_values.specs.Reciprocal.{IsShiftedDay, IsJulianCount, century_of, century_fraction_of, julian_count}
use Rattle.lanes.specs.YearLanes.{julian_bit}
use Rattle.lanes.proofs.LaneLemmas.{four, Lanes1-all, Lanes1-weaker, lanes1-same}
use Rattle.lanes.proofs.YearLaneLemmas.{IsJulianCount-julian_count, julian_bit-bound, leap_bit-is}
use Rattle.lanes.proofs.calendar.years_leap_ordinal.Goals as goal

pub julian_years-requires : goal.julian_years-requires
julian_years-requires c =
    let written = four c.args.day c.fits-day.0 in
    let days = rw written at c.requires in
    rw (c.julian_counts.ensures, written) (Lanes1-weaker IsShiftedDay (λ d. IsJulianCount (julian_count d)) c.args.day IsJulianCount-julian_count days)

pub ordinals-requires : goal.ordinals-requires
ordinals-requires c =
    rw (
      c.julian_years.ensures.fraction,
      c.julian_counts.ensures,
      c.julian_bits-julian.ensures,
      c.centuries.ensures.century,
      c.centuries.ensures.fraction,
      four c.args.day c.fits-day.0,
    )
    (Lanes1-all (λ d. julian_bit (century_of d) (century_fraction_of d) ≤ 1) c.args.day (λ d. julian_bit-bound (century_of d) (century_fraction_of d)))

pub returns-clause-years : goal.returns-clause-years
returns-clause-years c = c.julian_years.ensures.year ∙ rw (c.julian_counts.ensures, four c.args.day c.fits-day.0) refl

pub returns-clause-leap : goal.returns-clause-leap
returns-clause-leap c = c.leap_bits.ensures ∙
    rw (
      c.julian_years.ensures.year,
      c.julian_counts.ensures,
      c.julian_bits-julian.ensures,
      c.centuries.ensures.century,
      c.centuries.ensures.fraction,
      four c.args.day c.fits-day.0,
    )
    (lanes1-same _ _ c.args.day leap_bit-is)

pub returns-clause-ordinal : goal.returns-clause-ordinal
returns-clause-ordinal c = c.ordinals.ensures ∙
    rw (
      c.julian_years.ensures.fraction,
      c.julian_counts.ensures,
      c.julian_bits-julian.ensures,
      c.centuries.ensures.century,
      c.centuries.ensures.fraction,
      four c.args.day c.fits-day.0,
    ) refl

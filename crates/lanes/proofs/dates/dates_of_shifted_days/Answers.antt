use Rattle.std.proofs.Common.{cond, get_or}
use Rattle.calendar_values.specs.Reciprocal.{IsShiftedDay, step_leap, step_ordinal}
use Rattle.lanes.specs.YearLanes.{IsOrdinalLane}
use Rattle.lanes.proofs.LaneLemmas.{four, Lanes1-weaker}
use Rattle.lanes.proofs.DateTimeLemmas.{IsOrdinalLane-step}
use Rattle.lanes.proofs.DateLemmas.{date-lane, four-dates}
use Rattle.lanes.proofs.dates.dates_of_shifted_days.Goals as goal

pub month_and_day-requires : goal.month_and_day-requires
month_and_day-requires c =
    let written = four c.args.day c.fits-day.0 in
    let days = rw written at c.requires in
    rw (c.years_leap_ordinal.ensures.leap, c.years_leap_ordinal.ensures.ordinal, written)
    (Lanes1-weaker IsShiftedDay (λ d. IsOrdinalLane (cond (step_leap d) 1 0) (step_ordinal d)) c.args.day IsOrdinalLane-step days)

pub returns : goal.returns
returns c =
    let day = c.args.day in
    let days = rw (four day c.fits-day.0) at c.requires in
    rw (
      c.date_of_word.ensures,
      c.date_of_word-2.ensures,
      c.date_of_word-3.ensures,
      c.date_of_word-4.ensures,
      c.years_leap_ordinal.ensures.years,
      c.month_and_day.ensures.month,
      c.month_and_day.ensures.day,
      c.years_leap_ordinal.ensures.leap,
      c.years_leap_ordinal.ensures.ordinal,
      four day c.fits-day.0,
    )
    (four-dates (date-lane (get_or day 0 0) days.0) (date-lane (get_or day 1 0) days.1.0)
    (date-lane (get_or day 2 0) days.1.1.0) (date-lane (get_or day 3 0) days.1.1.1.0))

use Rattle.std.proofs.Common.{◌≡◌, cond, rules, w32, to_z, of_z, get_or}
use Rattle.calendar_values.specs.Reciprocal.{IsShiftedDay, step_leap, step_ordinal}
use Rattle.lanes.specs.YearLanes.{IsOrdinalLane}
use Rattle.lanes.proofs.LaneLemmas.{four, Lanes1-weaker}
use Rattle.lanes.proofs.DateTimeLemmas.{IsOrdinalLane-step, date_time-lane, four-same}
use Rattle.lanes.proofs.date_times.date_times_of_days.Goals as goal

pub month_and_day-requires : goal.month_and_day-requires
month_and_day-requires c =
    let written = four c.args.day c.fits-day.0 in
    let days = rw written at c.requires.days in
    rw (c.years_leap_ordinal.ensures.leap, c.years_leap_ordinal.ensures.ordinal, written)
    (Lanes1-weaker IsShiftedDay (λ d. IsOrdinalLane (cond (step_leap d) 1 0) (step_ordinal d)) c.args.day IsOrdinalLane-step days)

pub returns : goal.returns
returns c =
    let day = c.args.day in
    let second = c.args.second in
    let days = rw (four day c.fits-day.0) at c.requires.days in
    let seconds = rw (four second c.fits-second.0) at c.requires.seconds in
    let offset : to_z w32 (of_z w32 c.args.offset_seconds) ≡ c.args.offset_seconds = search rules in
    rw (
      c.date_time.ensures,
      c.date_time-2.ensures,
      c.date_time-3.ensures,
      c.date_time-4.ensures,
      offset,
      c.years_leap_ordinal.ensures.years,
      c.month_and_day.ensures.month,
      c.month_and_day.ensures.day,
      c.clocks.ensures.hour,
      c.clocks.ensures.minute,
      c.clocks.ensures.second,
      c.years_leap_ordinal.ensures.leap,
      c.years_leap_ordinal.ensures.ordinal,
      four day c.fits-day.0,
      four second c.fits-second.0,
    )
    (four-same (date_time-lane c.args.offset_seconds (get_or day 0 0) (get_or second 0 0) days.0 seconds.0)
    (date_time-lane c.args.offset_seconds (get_or day 1 0) (get_or second 1 0) days.1.0 seconds.1.0)
    (date_time-lane c.args.offset_seconds (get_or day 2 0) (get_or second 2 0) days.1.1.0 seconds.1.1.0)
    (date_time-lane c.args.offset_seconds (get_or day 3 0) (get_or second 3 0) days.1.1.1.0 seconds.1.1.1.0))

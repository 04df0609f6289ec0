use Rattle.std.proofs.Common.{◌∙◌, ap, to_z-of_z, ℤ}
use Rattle.calendar_values.specs.Calendar.{day_of_ordinal_date}
use Rattle.calendar_values.specs.DayLemmas.{IsDay-ordinal_date}
use Rattle.calendar_values.specs.WallClock.{wall_clock}
use Rattle.calendar_values.specs.WallClockLemmas.{IsWallClock-wall_clock}
use Rattle.offset_times.proofs.LocalLemmas.{IsYear-wall_clock}
use Rattle.offset_times.proofs.offset_date_time.conversions.date_time_if_any.Goals as goal

pub returns-in-Ok : goal.returns-in-Ok
returns-in-Ok c =
    let year = rw (to_z-of_z c.ranges.year) at c.in-Ok.ensures.value.value.0.0 in
    let day = rw (to_z-of_z c.ranges.year) at c.in-Ok.ensures.value.value.1 in (
      IsWallClock-wall_clock (day_of_ordinal_date c.args.year c.args.ordinal) c.args.time c.requires.clock
          (IsDay-ordinal_date c.args.year c.args.ordinal year c.requires.date),
      c.new.ensures ∙ ap (λ (n : ℤ). wall_clock n c.args.time) day,
    )

pub returns-in-Err : goal.returns-in-Err
returns-in-Err c = λ in_range.
    let refused = rw (to_z-of_z c.ranges.year) at c.in-Err.ensures.value.value in
    refused (IsYear-wall_clock c.args.year c.args.ordinal c.args.time c.requires.date c.requires.clock in_range, (c.requires.date.first, c.requires.date.last))

use Rattle.std.proofs.Common.{arith, pos}
use Rattle.std.proofs.lemmas.Int.{ints}
use Rattle.calendar_values.specs.Calendar.{day_of_ordinal_date}
use Rattle.calendar_values.specs.WallClock.{wall_time}
use Rattle.calendar_values.specs.WallClockLemmas.{IsClock-wall_time}
use Rattle.offset_times.proofs.CarryLemmas.{wall_clock-shown, CarriesWithin-to_utc}
use Rattle.offset_times.specs.Local.{instant_of}
use Rattle.offset_times.proofs.carries.to_utc_raw.Goals as goal

pub returns-clause-shown : goal.returns-clause-shown
unfolding instant_of
returns-clause-shown c =
    let moved = wall_clock-shown c.date_time.result (day_of_ordinal_date c.parts_at.result.0 c.parts_at.result.1) c.parts_at.result.2 c.offset.result
    (pos 0) c.parts_at.ensures.day_step c.parts_at.ensures.carried in
    omega (arith, ints)

pub returns-clause-within : goal.returns-clause-within
returns-clause-within c = CarriesWithin-to_utc (wall_time c.args.at.wall) c.args.at.offset (IsClock-wall_time c.args.at.wall) c.offset.ensures.self_in_range.1

use Rattle.std.proofs.Common.{arith}
use Rattle.std.proofs.lemmas.Int.{ints}
use Rattle.calendar_values.specs.Calendar.{day_of_ordinal_date}
use Rattle.offset_times.proofs.CarryLemmas.{wall_clock-shown}
use Rattle.offset_times.specs.Local.{instant_of}
use Rattle.offset_times.proofs.carries.to_offset_raw.Goals as goal

pub returns-clause-shown : goal.returns-clause-shown
unfolding instant_of
returns-clause-shown c =
    let moved = wall_clock-shown c.date_time.result (day_of_ordinal_date c.parts_at.result.0 c.parts_at.result.1) c.parts_at.result.2 c.offset.result
    c.args.offset
    c.parts_at.ensures.day_step c.parts_at.ensures.carried in
    omega (arith, ints)

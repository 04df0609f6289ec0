use Rattle.std.proofs.Common.{◌≡◌, ◌+◌, ◌*◌, ◌∙◌, ap, sym, rules, arith, to_z, of_z, w32}
use Rattle.calendar_values.specs.Clock.{nanos_per_second, IsClock}
use Rattle.calendar_values.specs.WallClock.{wall_day, wall_time}
use Rattle.plain_times.specs.DaysLaterLemmas.{same_day-within}
use Rattle.plain_times.specs.ReplacementLemmas.{wall_day-with_time, wall_time-with_time}
use Rattle.plain_times.specs.Replacements.{with_time}
use Rattle.stamp_times.proofs.timestamp.Timestamp.replace_time.Goals as goal

pub returns : goal.returns
unfolding with_time
returns c =
    let day : to_z w32 (of_z w32 c.day_number.result) ≡ c.day_number.result = search rules in
    let clock : c.second_of_day.result * nanos_per_second + c.nanosecond.result ≡ c.args.time = omega arith in
    let is_clock : IsClock c.args.time = omega arith in
    let value : c.instant_on_day.result ≡ with_time c.args.self c.args.time = rw (day, c.day_number.ensures.value, clock) at c.instant_on_day.ensures in
    let date = ap wall_day value ∙ wall_day-with_time c.args.self c.args.time is_clock in
    record {
      value = value;
      date = date;
      time = ap wall_time value ∙ wall_time-with_time c.args.self c.args.time is_clock;
      not_a_day_later = same_day-within c.instant_on_day.result c.args.self date;
      not_a_day_earlier = same_day-within c.args.self c.instant_on_day.result (sym date);
    }

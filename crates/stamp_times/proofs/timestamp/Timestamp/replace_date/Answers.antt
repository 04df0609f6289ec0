use Rattle.std.proofs.Common.{rules, ◌≡◌, arith, ap, ◌∙◌}
use Rattle.std.proofs.lemmas.Grind.{common_steps}
use Rattle.calendar_values.specs.WallClock.{wall_day, wall_time}
use Rattle.plain_times.specs.ReplacementLemmas.{wall_day-with_date, wall_time-with_date}
use Rattle.plain_times.specs.Replacements.{with_date}
use Rattle.stamp_times.proofs.timestamp.Timestamp.replace_date.Goals as goal

pub returns : goal.returns
unfolding with_date
returns c =
    let value : c.instant_on_day.result ≡ with_date c.args.self c.args.date = first_of (search rules, grind (arith, common_steps)) in
    record {
      value = value;
      date = ap wall_day value ∙ wall_day-with_date c.args.self c.args.date;
      time = ap wall_time value ∙ wall_time-with_date c.args.self c.args.date;
    }

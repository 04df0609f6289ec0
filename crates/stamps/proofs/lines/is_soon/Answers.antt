use Rattle.std.proofs.Common.{rules, ◌≡◌, ◌&&◌, ◌-ℤ◌, ◌∙◌, int_lt, nat_lt, not, pos, true}
use Rattle.std.specs.Ordering.{int_eq}
use Rattle.calendar_values.specs.WallClock.{wall_day, wall_time}
use Rattle.stamps.proofs.SoonLemmas.{of_one_day}
use Rattle.stamps.proofs.lines.is_soon.Goals as goal

pub returns-then-eq : goal.returns-then-eq
returns-then-eq c =
    let at = c.args.at in
    let before = c.args.before in
    let limit = c.args.limit in
    let day : int_eq (wall_day at) (wall_day before) ≡ true = search rules in
    let here : c.is_soon_in_a_day.result ≡ not (nat_lt (wall_time at) (wall_time before)) && not (int_lt limit (pos (wall_time at) -ℤ pos (wall_time before))) =
    search rules
    in
    here ∙ of_one_day limit at before day

use Rattle.std.proofs.Common.{rules, ℤ, ◌-ℤ◌}
use Rattle.muxandu_c.proofs.AnswerLemmas.{date_time_moved-of}
use Rattle.muxandu_c.proofs.date_times.date_time_subtract.Goals as goal

pub returns : goal.returns
returns c =
    date_time_moved-of (λ (w d : ℤ). w -ℤ d) c.args.date_time c.wall_parts.result c.args.duration c.in_ok-at.at c.in_ok-read_duration.field-0
    c.wall_of.result c.in_ok-wall.wall _ c.wall_parts.ensures c.in_ok-wall.ensures c.wall_of.ensures.value (search rules)
    c.in_ok-at.ensures.value c.in_ok-read_duration.ensures

use Rattle.std.proofs.Common.{◌∙◌, ap}
use Rattle.calendar_values.specs.WallClock.{wall_day}
use Rattle.offset_times.specs.InstantLemmas.{instant_of-not_a_day_later, instant_of-not_a_day_earlier}
use Rattle.offset_times.specs.Local.{Local}
use Rattle.offset_times.proofs.offset_date_time.OffsetDateTime.replace_time.Goals as goal

pub returns-clause-not_a_day_later : goal.returns-clause-not_a_day_later
returns-clause-not_a_day_later c =
    let one_day = ap (λ (at : Local). wall_day at.wall) c.replace_date_time.ensures.value ∙ c.replace_time.ensures.date
    ∙ ap wall_day c.date_time.ensures.value in
    instant_of-not_a_day_later c.args.self c.replace_date_time.result c.replace_date_time.ensures.instant one_day

pub returns-clause-not_a_day_earlier : goal.returns-clause-not_a_day_earlier
returns-clause-not_a_day_earlier c =
    let one_day = ap (λ (at : Local). wall_day at.wall) c.replace_date_time.ensures.value ∙ c.replace_time.ensures.date
    ∙ ap wall_day c.date_time.ensures.value in
    instant_of-not_a_day_earlier c.args.self c.replace_date_time.result c.replace_date_time.ensures.instant one_day

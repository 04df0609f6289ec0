use Rattle.std.proofs.Common.{◌≡◌, rules, w32, to_z, of_z}
use Rattle.lanes.proofs.DateTimeLemmas.{second-back, second-bound, date_time_by_steps-second, date_times-four}
use Rattle.lanes.proofs.date_times.date_times.Goals as goal

pub date_times_of_days-requires-clause-seconds : goal.date_times_of_days-requires-clause-seconds
date_times_of_days-requires-clause-seconds c =
    rw c.seconds_of_day.ensures (
      second-bound c.args.a _ c.day_and_low_word-day_a.result.0 c.day_and_low_word-day_a.result.1 c.requires.a
          (second-back c.args.a c.requires.a) c.day_and_low_word-day_a.ensures.day c.day_and_low_word-day_a.ensures.low,
      (
        second-bound c.args.b _ c.day_and_low_word-day_b.result.0 c.day_and_low_word-day_b.result.1 c.requires.b
            (second-back c.args.b c.requires.b) c.day_and_low_word-day_b.ensures.day c.day_and_low_word-day_b.ensures.low,
        (
          second-bound c.args.c _ c.day_and_low_word-day_c.result.0 c.day_and_low_word-day_c.result.1 c.requires.c
              (second-back c.args.c c.requires.c) c.day_and_low_word-day_c.ensures.day c.day_and_low_word-day_c.ensures.low,
          (
            second-bound c.args.d _ c.day_and_low_word-day_d.result.0 c.day_and_low_word-day_d.result.1 c.requires.d
                (second-back c.args.d c.requires.d) c.day_and_low_word-day_d.ensures.day c.day_and_low_word-day_d.ensures.low,
            tt,
          ),
        ),
      ),
    )

pub returns : goal.returns
returns c =
    let offset : to_z w32 (of_z w32 c.args.offset_seconds) ≡ c.args.offset_seconds = search rules in
    date_times-four c.args.offset_seconds _ c.args.a c.args.b c.args.c c.args.d c.day_and_low_word-day_a.result.0 c.day_and_low_word-day_b.result.0
    c.day_and_low_word-day_c.result.0 c.day_and_low_word-day_d.result.0 c.day_and_low_word-day_a.result.1 c.day_and_low_word-day_b.result.1
    c.day_and_low_word-day_c.result.1 c.day_and_low_word-day_d.result.1 c.seconds_of_day.result _ offset
    (date_time_by_steps-second c.args.offset_seconds c.args.a _ c.day_and_low_word-day_a.result.0 c.day_and_low_word-day_a.result.1 c.requires.a
    (second-back c.args.a c.requires.a) c.day_and_low_word-day_a.ensures.day c.day_and_low_word-day_a.ensures.low)
    (date_time_by_steps-second c.args.offset_seconds c.args.b _ c.day_and_low_word-day_b.result.0 c.day_and_low_word-day_b.result.1 c.requires.b
    (second-back c.args.b c.requires.b) c.day_and_low_word-day_b.ensures.day c.day_and_low_word-day_b.ensures.low)
    (date_time_by_steps-second c.args.offset_seconds c.args.c _ c.day_and_low_word-day_c.result.0 c.day_and_low_word-day_c.result.1 c.requires.c
    (second-back c.args.c c.requires.c) c.day_and_low_word-day_c.ensures.day c.day_and_low_word-day_c.ensures.low)
    (date_time_by_steps-second c.args.offset_seconds c.args.d _ c.day_and_low_word-day_d.result.0 c.day_and_low_word-day_d.result.1 c.requires.d
    (second-back c.args.d c.requires.d) c.day_and_low_word-day_d.ensures.day c.day_and_low_word-day_d.ensures.low)
    c.seconds_of_day.ensures c.date_times_of_days.ensures

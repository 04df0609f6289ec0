use Rattle.calendar_values.specs.OutcomeLemmas.{IsOneAnswer-within}
use Rattle.calendar_values.specs.WallClock.{wall_day, wall_time}
use Rattle.calendar_values.specs.WallClockLemmas.{IsDay-wall_day}
use Rattle.plain_times.specs.Replacements.{with_date, with_time}
use Rattle.plain_times.proofs.laws.outcomes_are_answers.Goals as goal

pub returns : goal.returns
returns c = record {
  year = λ w y. IsOneAnswer-within (with_date w) _ (c.outcomes_are_answers.ensures.year (wall_day w) y);
  month = λ w x range. IsOneAnswer-within (with_date w) _ (c.outcomes_are_answers.ensures.month (wall_day w) x (IsDay-wall_day w range));
  day = λ w x range. IsOneAnswer-within (with_date w) _ (c.outcomes_are_answers.ensures.day (wall_day w) x (IsDay-wall_day w range));
  ordinal = λ w x range. IsOneAnswer-within (with_date w) _ (c.outcomes_are_answers.ensures.ordinal (wall_day w) x (IsDay-wall_day w range));
  hour = λ w x. IsOneAnswer-within (with_time w) _ (c.outcomes_are_answers.ensures.hour (wall_time w) x);
  minute = λ w x. IsOneAnswer-within (with_time w) _ (c.outcomes_are_answers.ensures.minute (wall_time w) x);
  second = λ w x. IsOneAnswer-within (with_time w) _ (c.outcomes_are_answers.ensures.second (wall_time w) x);
  millisecond = λ w x. IsOneAnswer-within (with_time w) _ (c.outcomes_are_answers.ensures.millisecond (wall_time w) x);
  microsecond = λ w x. IsOneAnswer-within (with_time w) _ (c.outcomes_are_answers.ensures.microsecond (wall_time w) x);
  nanosecond = λ w x. IsOneAnswer-within (with_time w) _ (c.outcomes_are_answers.ensures.nanosecond (wall_time w) x);
}

use Rattle.calendar_values.specs.OutcomeLemmas.{IsOneAnswer-within}
use Rattle.offset_times.specs.Local.{at_offset_of}
use Rattle.offset_times.proofs.laws.outcomes_are_answers.Goals as goal

pub returns : goal.returns
returns c = record {
  year = λ at x. IsOneAnswer-within (at_offset_of at) _ (c.outcomes_are_answers.ensures.year at.wall x);
  month = λ at x range. IsOneAnswer-within (at_offset_of at) _ (c.outcomes_are_answers.ensures.month at.wall x range);
  day = λ at x range. IsOneAnswer-within (at_offset_of at) _ (c.outcomes_are_answers.ensures.day at.wall x range);
  ordinal = λ at x range. IsOneAnswer-within (at_offset_of at) _ (c.outcomes_are_answers.ensures.ordinal at.wall x range);
  hour = λ at x. IsOneAnswer-within (at_offset_of at) _ (c.outcomes_are_answers.ensures.hour at.wall x);
  minute = λ at x. IsOneAnswer-within (at_offset_of at) _ (c.outcomes_are_answers.ensures.minute at.wall x);
  second = λ at x. IsOneAnswer-within (at_offset_of at) _ (c.outcomes_are_answers.ensures.second at.wall x);
  millisecond = λ at x. IsOneAnswer-within (at_offset_of at) _ (c.outcomes_are_answers.ensures.millisecond at.wall x);
  microsecond = λ at x. IsOneAnswer-within (at_offset_of at) _ (c.outcomes_are_answers.ensures.microsecond at.wall x);
  nanosecond = λ at x. IsOneAnswer-within (at_offset_of at) _ (c.outcomes_are_answers.ensures.nanosecond at.wall x);
}

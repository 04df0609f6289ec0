use Rattle.calendar_values.specs.ClockReplacementLemmas.{hour_outcome-shows, minute_outcome-shows, second_outcome-shows, millisecond_outcome-shows}
use Rattle.calendar_values.specs.ClockReplacementLemmas.{microsecond_outcome-shows}
use Rattle.calendar_values.specs.ClockReplacementLemmas.{nanosecond_outcome-shows, HasTimeParts-unique}
use Rattle.calendar_values.proofs.laws.clock_replacements_keep_the_rest.Goals as goal

pub returns : goal.returns
returns c = record {
  hour = hour_outcome-shows;
  minute = minute_outcome-shows;
  second = second_outcome-shows;
  millisecond = millisecond_outcome-shows;
  microsecond = microsecond_outcome-shows;
  nanosecond = nanosecond_outcome-shows;
  only = HasTimeParts-unique;
}

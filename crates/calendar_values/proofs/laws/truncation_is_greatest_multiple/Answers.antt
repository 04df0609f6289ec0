use Rattle.calendar_values.specs.ClockTruncationLemmas.{IsGreatestMultiple-multiple_below}
use Rattle.calendar_values.proofs.laws.truncation_is_greatest_multiple.Goals as goal

pub returns : goal.returns
returns c = IsGreatestMultiple-multiple_below

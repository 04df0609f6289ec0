use Rattle.std.proofs.Common.{refl}
use Rattle.calendar_values.specs.Calendar.{days_in_months}
use Rattle.calendar_values.specs.Weeks.{weekday_of}
use Rattle.calendar_values.specs.DayLemmas.{day_of_ordinal_date-first, day_of_ordinal_date-last}
use Rattle.calendar_values.proofs.laws.range_is_whole_years.Goals as goal

pub returns : goal.returns
unfolding days_in_months weekday_of
returns c = record { first = day_of_ordinal_date-first; last = day_of_ordinal_date-last; monday = refl; friday = refl }

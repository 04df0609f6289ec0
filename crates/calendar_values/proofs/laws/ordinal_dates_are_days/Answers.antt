use Rattle.calendar_values.specs.DayLemmas.{IsOrdinalDate-of, day_of_ordinal_date-of, year_of-ordinal_date, ordinal_of-ordinal_date}
use Rattle.calendar_values.proofs.laws.ordinal_dates_are_days.Goals as goal

pub returns : goal.returns
returns c = record {
  shown = IsOrdinalDate-of;
  numbered = day_of_ordinal_date-of;
  year = year_of-ordinal_date;
  ordinal = ordinal_of-ordinal_date;
}

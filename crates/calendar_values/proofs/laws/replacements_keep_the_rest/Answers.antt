use Rattle.calendar_values.specs.Calendar.{year_of, month_of, day_of_month_of}
use Rattle.calendar_values.specs.DayLemmas.{year_of-is, ordinal_of-is}
use Rattle.calendar_values.specs.CalendarDateLemmas.{IsCalendarDate-of}
use Rattle.calendar_values.proofs.AcceptedLemmas.{IsOnlyDay-accepted, ordinal_date-accepted}
use Rattle.calendar_values.proofs.laws.replacements_keep_the_rest.Goals as goal

pub returns : goal.returns
returns c = record {
  year = λ n y k e. let date = IsCalendarDate-of n in IsOnlyDay-accepted y k (month_of n) (day_of_month_of n) date.month_first date.month_last e;
  month = λ n k m first last e. IsOnlyDay-accepted (year_of n) k m (day_of_month_of n) first last e;
  day = λ n k d e. let date = IsCalendarDate-of n in IsOnlyDay-accepted (year_of n) k (month_of n) d date.month_first date.month_last e;
  ordinal = λ n k o e.
      let accepted = ordinal_date-accepted (year_of n) k o e in
      (year_of-is k (year_of n) o accepted.0 accepted.1, ordinal_of-is k (year_of n) o accepted.0 accepted.1);
}

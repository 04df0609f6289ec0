use Rattle.calendar_values.specs.CalendarDateLemmas.{IsCalendarDate-of, day_of_calendar_date-of, year_of-calendar_date, month_of-calendar_date}
use Rattle.calendar_values.specs.CalendarDateLemmas.{day_of_month_of-calendar_date}
use Rattle.calendar_values.proofs.laws.calendar_dates_are_days.Goals as goal

pub returns : goal.returns
returns c = record {
  shown = IsCalendarDate-of;
  numbered = day_of_calendar_date-of;
  year = year_of-calendar_date;
  month = month_of-calendar_date;
  day = day_of_month_of-calendar_date;
}

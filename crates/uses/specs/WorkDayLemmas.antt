-- Rules for a caller that goes back to a day of the week.
use Rattle.calendar_values.specs.WeekLemmas.{weekday_of-bound, weekday_of-days_earlier}

-- the days of the week of earlier days
pub ruleset earlier_days = (weekday_of-bound, weekday_of-days_earlier)

use Rattle.std.proofs.Common.{rules}
use Rattle.stamp_times.proofs.timestamp.Timestamp.to_calendar_date.Goals as goal

pub returns : goal.returns
returns c = record {
  year = search rules;
  month = search rules;
  day = search rules;
  year_in_range = search rules;
  day_in_range = c.leap_ordinal_to_month_day-month.ensures.in_range;
}

use Rattle.std.proofs.Common.{rules}
use Rattle.calendar_values.proofs.WeekNumberLemmas.{week_numbers}
use Rattle.calendar_values.proofs.date.Date.to_iso_week_date.Goals as goal

pub returns : goal.returns
returns c = record {
  year = search (rules, week_numbers);
  week = search (rules, week_numbers);
  weekday = search (rules, week_numbers);
  year_in_range = search (rules, week_numbers);
  week_in_range = search (rules, week_numbers);
}

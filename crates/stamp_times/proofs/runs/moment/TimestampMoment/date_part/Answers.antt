use Rattle.std.proofs.Common.{ap}
use Rattle.stamp_times.specs.declared.runs.calls.DatePart.TheVariants as date_part
use Rattle.stamp_times.proofs.MomentLemmas.{month_numbered-is, weekday_numbered-is, CalendarDate-is, IsoWeekDate-is}
use Rattle.stamp_times.proofs.runs.moment.TimestampMoment.date_part.Goals as goal

pub returns-in-Month : goal.returns-in-Month
returns-in-Month c = rw c.in-Month.is (ap date_part.Month (month_numbered-is _ _ c.month.ensures))

pub returns-in-Weekday : goal.returns-in-Weekday
returns-in-Weekday c = rw c.in-Weekday.is (ap date_part.Weekday (weekday_numbered-is _ _ c.weekday.ensures))

pub returns-in-CalendarDate : goal.returns-in-CalendarDate
returns-in-CalendarDate c = rw c.in-CalendarDate.is (CalendarDate-is _ _ c.to_calendar_date-year.ensures)

pub returns-in-IsoWeekDate : goal.returns-in-IsoWeekDate
returns-in-IsoWeekDate c = rw c.in-IsoWeekDate.is (IsoWeekDate-is _ _ c.to_iso_week_date-year.ensures)

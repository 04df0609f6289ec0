use Rattle.calendar_values.proofs.OnlyCalendarLemmas.{is_calendar, only_calendar}
use Rattle.calendar_values.proofs.laws.is_only_calendar.Goals as goal

pub returns : goal.returns
returns c = record { is = is_calendar; only = only_calendar }

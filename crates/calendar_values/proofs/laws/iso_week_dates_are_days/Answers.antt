use Rattle.calendar_values.specs.IsoWeekDateLemmas.{iso_week_date-of, iso_week_date-shows}
use Rattle.calendar_values.proofs.laws.iso_week_dates_are_days.Goals as goal

pub returns : goal.returns
returns c = record { numbered = iso_week_date-of; shown = iso_week_date-shows }

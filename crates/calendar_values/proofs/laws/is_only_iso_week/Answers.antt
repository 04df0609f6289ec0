use Rattle.calendar_values.proofs.OnlyWeekLemmas.{is_iso_week, only_iso_week}
use Rattle.calendar_values.proofs.laws.is_only_iso_week.Goals as goal

pub returns : goal.returns
returns c = record { is = is_iso_week; only = only_iso_week }

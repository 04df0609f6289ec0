use Rattle.calendar_values.proofs.OnlyWeekLemmas.{is_weekday, only_weekday}
use Rattle.calendar_values.proofs.laws.is_only_weekday.Goals as goal

pub returns : goal.returns
returns c = record { is = is_weekday; only = only_weekday }

use Rattle.calendar_values.specs.DayLemmas.{IsInYear-year_of, year_of-unique}
use Rattle.calendar_values.proofs.laws.year_is_unique.Goals as goal

pub returns : goal.returns
returns c = record { lies = IsInYear-year_of; only = year_of-unique }

use Rattle.calendar_values.specs.YearLemmas.{year_start-1970, year_start-next}
use Rattle.calendar_values.proofs.laws.years_follow.Goals as goal

pub returns : goal.returns
returns c = record { epoch = year_start-1970; next = year_start-next }

use Rattle.stamps.proofs.ValueLawLemmas.{date, merged, quotes, seconds}
use Rattle.stamps.proofs.laws.values_stay_values.Goals as goal

pub returns : goal.returns
returns c = record { date = date; seconds = seconds; merged = merged; quotes = quotes }

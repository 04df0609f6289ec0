use Rattle.stamps.proofs.YearLawLemmas.{after-not, until-is, without-not}
use Rattle.stamps.proofs.laws.stamps_are_until.Goals as goal

pub returns : goal.returns
returns c = record { until = until-is; after = after-not; without = without-not }

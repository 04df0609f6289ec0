use Rattle.stamps.proofs.BoundLawLemmas.{whole, with_digits}
use Rattle.stamps.proofs.laws.bounds_are_exact.Goals as goal

pub returns : goal.returns
returns c = record { whole = whole; digits = with_digits }

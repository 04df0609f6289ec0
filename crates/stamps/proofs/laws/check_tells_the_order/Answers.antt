use Rattle.stamps.proofs.CheckLawLemmas.{lenient, strict}
use Rattle.stamps.proofs.laws.check_tells_the_order.Goals as goal

pub returns : goal.returns
returns c = record { lenient = lenient; strict = strict }

use Rattle.muxandu_c.proofs.SumLawLemmas.{order}
use Rattle.muxandu_c.proofs.laws.order_is_that_of_seconds.Goals as goal

pub returns : goal.returns
returns c = order

use Rattle.muxandu_c.proofs.SumLawLemmas.{orders}
use Rattle.muxandu_c.proofs.laws.orders_are_those_of_timestamps.Goals as goal

pub returns : goal.returns
returns c = orders

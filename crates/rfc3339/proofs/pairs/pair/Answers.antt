use Rattle.rfc3339.proofs.PairLemmas.{pair_at}
use Rattle.rfc3339.proofs.pairs.pair.Goals as goal

pub returns : goal.returns
returns c = pair_at c.args.number _ c.requires

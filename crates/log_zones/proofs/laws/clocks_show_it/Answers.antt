use Rattle.log_zones.proofs.InstantLemmas.{clocks_show_it}
use Rattle.log_zones.proofs.laws.clocks_show_it.Goals as goal

pub returns : goal.returns
returns c = clocks_show_it

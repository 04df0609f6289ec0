use Rattle.zoned_times.proofs.LawLemmas.{found-among}
use Rattle.zoned_times.proofs.laws.instants_are_found.Goals as goal

pub returns : goal.returns
returns c = found-among

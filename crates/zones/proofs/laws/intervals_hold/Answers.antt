use Rattle.zones.proofs.LawLemmas.{intervals}
use Rattle.zones.proofs.laws.intervals_hold.Goals as goal

pub returns : goal.returns
returns c = intervals

use Rattle.plain_times.specs.TruncationLemmas.{IsGreatestWallMultiple-wall_multiple_below}
use Rattle.plain_times.proofs.laws.truncations_round_down.Goals as goal

pub returns : goal.returns
returns c = IsGreatestWallMultiple-wall_multiple_below

use Rattle.plain_times.specs.TruncationLemmas.{wall_multiple_below-twice}
use Rattle.plain_times.proofs.laws.truncations_round_down_once.Goals as goal

pub returns : goal.returns
returns c = wall_multiple_below-twice

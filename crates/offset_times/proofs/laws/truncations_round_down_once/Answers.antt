use Rattle.offset_times.proofs.ConversionLawLemmas.{local_multiple_below-twice}
use Rattle.offset_times.proofs.laws.truncations_round_down_once.Goals as goal

pub returns : goal.returns
returns c = local_multiple_below-twice

use Rattle.offset_times.proofs.ConversionLawLemmas.{conversion-own}
use Rattle.offset_times.proofs.laws.own_offset_stays.Goals as goal

pub returns : goal.returns
returns c = conversion-own

use Rattle.offset_times.proofs.ConversionLawLemmas.{conversion-again}
use Rattle.offset_times.proofs.laws.conversions_compose.Goals as goal

pub returns : goal.returns
returns c = conversion-again

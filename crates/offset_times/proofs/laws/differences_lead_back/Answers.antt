use Rattle.offset_times.specs.InstantLemmas.{instant_of-local_at}
use Rattle.offset_times.specs.Local.{Local, instant_of}
use Rattle.offset_times.proofs.ConversionLawLemmas.{difference-leads_back}
use Rattle.offset_times.proofs.laws.differences_lead_back.Goals as goal

pub returns : goal.returns
returns c = record { sum = difference-leads_back; instant = λ (a b : Local). instant_of-local_at (instant_of a) b.offset }

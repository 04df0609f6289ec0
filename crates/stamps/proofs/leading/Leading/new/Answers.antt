use Rattle.std.proofs.Common.{refl}
use Rattle.stamps.proofs.LeadingLemmas.{stands_first}
use Rattle.stamps.proofs.leading.Leading.new.Goals as goal

pub returns-clause-stands : goal.returns-clause-stands
returns-clause-stands c = λ reader head low. stands_first reader head _ low refl refl refl c.new.ensures

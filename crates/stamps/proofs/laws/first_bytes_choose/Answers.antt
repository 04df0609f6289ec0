use Rattle.stamps.proofs.LeadingLawLemmas.{first_bytes}
use Rattle.stamps.proofs.laws.first_bytes_choose.Goals as goal

pub returns : goal.returns
returns c = first_bytes

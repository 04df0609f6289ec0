use Rattle.stamps.proofs.LeadingLawLemmas.{first_lines}
use Rattle.stamps.proofs.laws.first_lines_choose.Goals as goal

pub returns : goal.returns
returns c = first_lines

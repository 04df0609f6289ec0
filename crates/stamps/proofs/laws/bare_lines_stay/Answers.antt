use Rattle.stamps.proofs.FrontLawLemmas.{bare_lines}
use Rattle.stamps.proofs.laws.bare_lines_stay.Goals as goal

pub returns : goal.returns
returns c = bare_lines

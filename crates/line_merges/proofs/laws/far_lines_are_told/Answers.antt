use Rattle.line_merges.proofs.SortLawLemmas.{near, near_none}
use Rattle.line_merges.proofs.laws.far_lines_are_told.Goals as goal

pub returns : goal.returns
returns c = record { none = near_none; near = near }

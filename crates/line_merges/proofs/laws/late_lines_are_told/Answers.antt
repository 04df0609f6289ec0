use Rattle.line_merges.proofs.SortLawLemmas.{none, within}
use Rattle.line_merges.proofs.laws.late_lines_are_told.Goals as goal

pub returns : goal.returns
returns c = record { none = none; within = within }

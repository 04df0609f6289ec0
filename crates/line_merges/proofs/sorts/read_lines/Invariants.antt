use Rattle.std.proofs.Common.{length}
use Rattle.line_merges.proofs.SortLemmas.{Reads}
use Rattle.line_merges.specs.Instants.{reading_from}
use Rattle.line_merges.proofs.sorts.read_lines.Given as goal

abbrev pub invariant-lines : goal.invariant-lines
invariant-lines g l = Reads (reading_from (g.I.Instants.reading l.instants 0) l.fn.memory) l.fn.lateness l.text l.reading l.rest

abbrev pub decreases-lines : goal.decreases-lines
decreases-lines g l = length l.rest

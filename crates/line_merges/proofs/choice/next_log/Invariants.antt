use Rattle.line_merges.proofs.ChoiceLemmas.{BestBelow}
use Rattle.line_merges.specs.Choices.{log_fronts}
use Rattle.line_merges.proofs.choice.next_log.Given as goal

-- the best of the logs so far
abbrev pub invariant-loop-k : goal.invariant-loop-k
invariant-loop-k g l = BestBelow l.k (log_fronts l.logs) l.best

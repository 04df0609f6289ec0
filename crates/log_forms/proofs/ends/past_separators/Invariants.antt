use Rattle.std.proofs.Common.{◌≡◌, length}
use Rattle.log_forms.specs.Ends.{past_separators}
use Rattle.log_forms.proofs.ends.past_separators.Given as goal

abbrev pub invariant-loop-first : goal.invariant-loop-first
invariant-loop-first l = record {
  same : past_separators l.rest ≡ past_separators l.text;
}

abbrev pub decreases-loop-first : goal.decreases-loop-first
decreases-loop-first l = length l.rest

use Rattle.std.proofs.Common.{◌≡◌, false, length}
use Rattle.log_forms.specs.Ends.{ends_behind_comma}
use Rattle.log_forms.proofs.ends.ends_behind_comma.Given as goal

abbrev pub invariant-loop-first : goal.invariant-loop-first
invariant-loop-first l = record {
  same : ends_behind_comma l.is_behind l.rest ≡ ends_behind_comma false l.text;
}

abbrev pub decreases-loop-first : goal.decreases-loop-first
decreases-loop-first l = length l.rest

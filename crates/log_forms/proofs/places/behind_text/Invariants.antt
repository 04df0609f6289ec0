use Rattle.std.proofs.Common.{◌≡◌, ◌≤◌, length}
use Rattle.log_forms.specs.Places.{behind_text}
use Rattle.log_forms.proofs.places.behind_text.Given as goal

abbrev pub invariant-loop-more : goal.invariant-loop-more
invariant-loop-more l = record {
  same : behind_text l.text l.rest ≡ behind_text l.text l.line;
  shorter : length l.rest ≤ length l.line;
}

abbrev pub decreases-loop-more : goal.decreases-loop-more
decreases-loop-more l = length l.rest

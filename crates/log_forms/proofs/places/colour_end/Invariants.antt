use Rattle.std.proofs.Common.{◌≡◌, ◌≤◌, length}
use Rattle.log_forms.specs.Places.{colour_end}
use Rattle.log_forms.proofs.places.colour_end.Given as goal

abbrev pub invariant-loop-first : goal.invariant-loop-first
invariant-loop-first l = record {
  same : colour_end l.rest ≡ colour_end l.text;
  shorter : length l.rest ≤ length l.text;
}

abbrev pub decreases-loop-first : goal.decreases-loop-first
decreases-loop-first l = length l.rest

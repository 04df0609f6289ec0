use Rattle.std.proofs.Common.{◌≡◌, ◌≤◌, true, length}
use Rattle.log_forms.specs.Places.{field_at}
use Rattle.log_forms.proofs.places.field_at.Given as goal

abbrev pub invariant-loop-first : goal.invariant-loop-first
invariant-loop-first l = record {
  same : field_at l.is_behind_blank l.left l.rest ≡ field_at true l.number l.line;
  shorter : length l.rest ≤ length l.line;
}

abbrev pub decreases-loop-first : goal.decreases-loop-first
decreases-loop-first l = length l.rest

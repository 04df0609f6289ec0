use Rattle.std.proofs.Common.{◌≡◌, ◌≤◌, length}
use Rattle.log_forms.specs.Marks.{bytes_at}
use Rattle.log_forms.proofs.places.after_bytes.Given as goal

abbrev pub invariant-loop-first : goal.invariant-loop-first
invariant-loop-first l = record {
  same : bytes_at l.left l.rest ≡ bytes_at l.bytes l.text;
  shorter : length l.rest ≤ length l.text;
}

abbrev pub decreases-loop-first : goal.decreases-loop-first
decreases-loop-first l = length l.left

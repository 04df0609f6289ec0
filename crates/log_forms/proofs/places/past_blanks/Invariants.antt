use Rattle.std.proofs.Common.{◌≡◌, ◌≤◌, length}
use Rattle.log_forms.specs.Marks.{past_blanks}
use Rattle.log_forms.proofs.places.past_blanks.Given as goal

abbrev pub invariant-loop-first : goal.invariant-loop-first
invariant-loop-first l = record {
  same : past_blanks l.rest ≡ past_blanks l.text;
  shorter : length l.rest ≤ length l.text;
}

abbrev pub decreases-loop-first : goal.decreases-loop-first
decreases-loop-first l = length l.rest

use Rattle.std.proofs.Common.{◌≡◌, ◌≤◌, length}
use Rattle.log_forms.specs.Json.{past_white}
use Rattle.log_forms.proofs.json.past_white.Given as goal

abbrev pub invariant-loop-first : goal.invariant-loop-first
invariant-loop-first l = record {
  same : past_white l.rest ≡ past_white l.text;
  shorter : length l.rest ≤ length l.text;
}

abbrev pub decreases-loop-first : goal.decreases-loop-first
decreases-loop-first l = length l.rest

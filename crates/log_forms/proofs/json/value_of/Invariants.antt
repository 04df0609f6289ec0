use Rattle.std.proofs.Common.{◌≡◌, ◌≤◌, ◌+◌, length}
use Rattle.log_forms.specs.Json.{value_of}
use Rattle.log_forms.specs.declared.json.JsonState.TheVariants.{Outside}
use Rattle.log_forms.proofs.json.value_of.Given as goal

abbrev pub invariant-loop-first : goal.invariant-loop-first
invariant-loop-first l = record {
  same : value_of l.is_inner l.name l.state l.depth l.rest ≡ value_of l.is_inner l.name Outside 0 l.text;
  shorter : l.depth + length l.rest ≤ length l.text;
}

abbrev pub decreases-loop-first : goal.decreases-loop-first
decreases-loop-first l = length l.rest

use Rattle.std.proofs.Common.{◌≡◌, length}
use Rattle.log_forms.specs.Choices.{digits_behind_comma}
use Rattle.log_forms.proofs.choice.digits_behind_comma.Given as goal

abbrev pub invariant-loop-first : goal.invariant-loop-first
invariant-loop-first l = record {
  same : digits_behind_comma l.rest ≡ digits_behind_comma l.text;
}

abbrev pub decreases-loop-first : goal.decreases-loop-first
decreases-loop-first l = length l.rest

use Rattle.std.proofs.Common.{◌≡◌, true, [], length}
use Rattle.log_forms.specs.Fronts.{last_word}
use Rattle.log_forms.proofs.fronts.last_word.Given as goal

abbrev pub invariant-loop-first : goal.invariant-loop-first
invariant-loop-first l = record {
  same : last_word l.word l.is_behind_gap l.rest ≡ last_word [] true l.text;
}

abbrev pub decreases-loop-first : goal.decreases-loop-first
decreases-loop-first l = length l.rest

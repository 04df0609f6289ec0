use Rattle.std.proofs.Common.{◌≡◌, ◌≤◌, false, option_map, length}
use Rattle.std.specs.Prelude.{IfSome}
use Rattle.log_forms.specs.Marks.{first_of}
use Rattle.log_forms.specs.Places.{last_bracket}
use Rattle.log_forms.proofs.places.last_bracket.Given as goal

abbrev pub invariant-loop-first : goal.invariant-loop-first
invariant-loop-first l = record {
  same : first_of (last_bracket l.is_behind_space l.rest) (option_map (λ rest. rest.now) l.found) ≡ last_bracket false l.text;
  shorter : length l.rest ≤ length l.text;
  found : IfSome l.found (λ rest. length rest.now ≤ length l.text);
}

abbrev pub decreases-loop-first : goal.decreases-loop-first
decreases-loop-first l = length l.rest

use Rattle.std.proofs.Common.{◌≡◌, ◌≤◌, ◌-◌, drop, length}
use Rattle.line_merges.specs.Sorts.{far_after_lines, first_distance}
use Rattle.line_merges.proofs.sorts.distance_of.Given as goal

abbrev pub invariant-lines : goal.invariant-lines
invariant-lines l = record {
  within : l.place ≤ length l.held;
  rest : far_after_lines l.distance l.place (drop l.place l.held) ≡ far_after_lines (first_distance l.most) 0 l.held;
}

abbrev pub decreases-lines : goal.decreases-lines
decreases-lines l = length l.held - l.place

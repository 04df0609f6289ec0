use Rattle.std.proofs.Common.{◌≡◌, ◌+◌, ◌≤◌, length}
use Rattle.format_descriptions.specs.DescriptionGroups.{group_size}
use Rattle.format_descriptions.proofs.description_groups.group_size.Given as goal

-- the items so far and those of what is left are those of the whole
abbrev pub invariant-loop-first : goal.invariant-loop-first
invariant-loop-first l = record {
  same : l.size + group_size l.version l.groups l.state l.rest ≡ group_size l.version l.groups l.fn.state l.text;
  room : l.size + length l.rest ≤ length l.text;
}

abbrev pub decreases-loop-first : goal.decreases-loop-first
decreases-loop-first l = length l.rest

use Rattle.std.proofs.Common.{ℕ, ◌≡◌, ◌≤◌, ◌-◌, length, take, drop, ◌++◌}
use Rattle.format_descriptions.specs.Descriptions.{items_of_description, items_from, items_before_fault, first_items}
use Rattle.format_descriptions.proofs.DescriptionLemmas.{behind}
use Rattle.format_descriptions.proofs.descriptions.parse_description.Given as goal

-- the items that were put and those of what is left are those of the whole
abbrev pub invariant-loop-first : goal.invariant-loop-first
invariant-loop-first l = record {
  same : behind (take l.count l.room) (items_from l.version (length l.fn.room - l.count) l.state l.rest)
      ≡ items_of_description l.version (length l.fn.room) l.text;
  first : take l.count l.room ++ items_before_fault l.version (length l.fn.room - l.count) l.state l.rest
      ≡ first_items l.version (length l.fn.room) l.text;
  others : (k : ℕ) → l.count ≤ k → drop k l.room ≡ drop k l.fn.room;
  count : l.count ≤ length l.fn.room;
  length : length l.room ≡ length l.fn.room;
}

abbrev pub decreases-loop-first : goal.decreases-loop-first
decreases-loop-first l = length l.rest

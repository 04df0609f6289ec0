use Rattle.std.proofs.Common.{◌≡◌, ◌≤◌, length}
use Rattle.format_descriptions.specs.Read.{front_of}
use Rattle.format_descriptions.proofs.read.front_of.Given as goal

-- what is left of the text is read by the items that are left as the whole is by them all
abbrev pub invariant-loop-item : goal.invariant-loop-item
invariant-loop-item l = record {
  same : front_of l.items l.rest l.parts ≡ front_of l.fn.items l.fn.text l.fn.parts;
  shorter : length l.rest ≤ length l.fn.text;
}

abbrev pub decreases-loop-item : goal.decreases-loop-item
decreases-loop-item l = length l.items

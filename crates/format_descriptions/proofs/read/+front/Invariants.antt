use Rattle.std.proofs.Common.{◌≡◌, ◌≤◌, length, None, IfSome}
use Rattle.format_descriptions.specs.KeptParts.{Keeps}
use Rattle.format_descriptions.specs.Read.{read_from}
use Rattle.format_descriptions.proofs.read.+front.Given as goal

abbrev pub decreases-front : goal.decreases-front
decreases-front l = length l.items.now

-- what is left of the text is read by the items that are left as the whole is by them all
abbrev pub invariant-loop-item : goal.invariant-loop-item
invariant-loop-item l = record {
  same : read_from l.items 0 l.count l.fault l.rest l.parts ≡ read_from l.fn.items 0 l.fn.count None l.fn.text l.fn.parts;
  kept : Keeps l.fn.parts l.parts;
  shorter : length l.rest ≤ length l.fn.text;
  left : IfSome l.fault (λ left. left ≤ length l.fn.text);
  fewer : length l.items ≤ length l.fn.items;
}

abbrev pub decreases-loop-item : goal.decreases-loop-item
decreases-loop-item l = length l.items

use Rattle.std.proofs.Common.{◌≡◌, ◌≤◌, length}
use Rattle.format_descriptions.specs.Groups.{written_from}
use Rattle.format_descriptions.specs.Kinds.{flat_lacking}
use Rattle.format_descriptions.proofs.kinds.+lacking_of.Given as goal

abbrev pub decreases-lacking_of : goal.decreases-lacking_of
decreases-lacking_of l = length l.items.now

-- what the items that are left lack is what they all lack
abbrev pub invariant-loop-item : goal.invariant-loop-item
invariant-loop-item l = record {
  same : flat_lacking l.date l.time l.offset (written_from l.items 0 l.count)
      ≡ flat_lacking l.date l.time l.offset (written_from l.fn.items 0 l.fn.count);
  fewer : length l.items ≤ length l.fn.items;
}

abbrev pub decreases-loop-item : goal.decreases-loop-item
decreases-loop-item l = length l.items

use Rattle.std.proofs.Common.{◌≡◌, ◌≤◌, ℕ, List, length, false}
use Rattle.format_descriptions.specs.DescriptionTexts.{source_from}
use Rattle.format_descriptions.proofs.description_lengths.+count_items.Given as goal

abbrev pub decreases-count_items : goal.decreases-count_items
decreases-count_items l = length l.items.now

-- after each text there is a text of the bytes that are counted, and what the items that are left add to it is what they all add
abbrev pub invariant-loop-item : goal.invariant-loop-item
invariant-loop-item l = record {
  text : (before : List ℕ) → length before ≡ l.fn.used → (text : List ℕ) × (length text ≡ l.used)
      × (source_from l.version l.room l.depth l.several l.items 0 l.count text
      ≡ source_from l.version l.room l.depth false l.fn.items 0 l.fn.count before);
  within : l.used ≤ l.room;
  fewer : length l.items ≤ length l.fn.items;
}

abbrev pub decreases-loop-item : goal.decreases-loop-item
decreases-loop-item l = length l.items

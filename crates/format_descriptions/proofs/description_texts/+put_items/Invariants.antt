use Rattle.std.proofs.Common.{◌≡◌, ◌≤◌, ℕ, length, take, drop, false}
use Rattle.format_descriptions.specs.DescriptionTexts.{source_from}
use Rattle.format_descriptions.proofs.description_texts.+put_items.Given as goal

abbrev pub decreases-put_items : goal.decreases-put_items
decreases-put_items l = length l.items.now

-- what is put, and what the items that are left have, is what they all have
abbrev pub invariant-loop-item : goal.invariant-loop-item
invariant-loop-item l = record {
  text : source_from l.version (length l.fn.room) l.depth l.several l.items 0 l.count (take l.used l.room)
      ≡ source_from l.version (length l.fn.room) l.depth false l.fn.items 0 l.fn.count (take l.fn.used l.fn.room);
  room : length l.room ≡ length l.fn.room;
  within : l.used ≤ length l.fn.room;
  more : l.fn.used ≤ l.used;
  others : (k : ℕ) → l.used ≤ k → drop k l.room ≡ drop k l.fn.room;
  fewer : length l.items ≤ length l.fn.items;
}

abbrev pub decreases-loop-item : goal.decreases-loop-item
decreases-loop-item l = length l.items

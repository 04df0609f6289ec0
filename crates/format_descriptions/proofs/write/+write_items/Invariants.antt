use Rattle.std.proofs.Common.{◌≡◌, ◌≤◌, ◌++◌, length}
use Rattle.std.specs.Prelude.{IsAscii}
use Rattle.calendar_values.specs.Digits.{text_capacity}
use Rattle.format_descriptions.specs.Groups.{written_from}
use Rattle.format_descriptions.specs.Written.{flat_text}
use Rattle.format_descriptions.proofs.write.+write_items.Given as goal

abbrev pub decreases-write_items : goal.decreases-write_items
decreases-write_items l = length l.items.now

-- what is written, and what the items that are left write, is what they all write
abbrev pub invariant-loop-item : goal.invariant-loop-item
invariant-loop-item l = record {
  text : l.text ++ flat_text (written_from l.items 0 l.count) l.date l.time l.offset
      ≡ l.fn.text ++ flat_text (written_from l.fn.items 0 l.fn.count) l.date l.time l.offset;
  room : length l.text ≤ text_capacity;
  ascii : IsAscii l.text;
  fewer : length l.items ≤ length l.fn.items;
}

abbrev pub decreases-loop-item : goal.decreases-loop-item
decreases-loop-item l = length l.items

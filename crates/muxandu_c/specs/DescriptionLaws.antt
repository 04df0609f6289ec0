-- The items of a description and their numbers: which items are those of numbers, and which numbers are no item.
use Rattle.std.specs.Prelude.{◌≡◌, ◌<◌, ◌≤◌, All, List, Contains, length, map, ⊤, Some, None, Ok, Err, ◌⊎◌}
use Rattle.format_descriptions.specs.declared.component.Component.{Component}
use Rattle.format_descriptions.specs.declared.component.Component.TheVariants as component
use Rattle.format_descriptions.specs.declared.item.Item.{Item}
use Rattle.format_descriptions.specs.declared.item.Item.TheVariants as item
use Rattle.muxandu_c.specs.DescriptionItems.{item_of, numbers_of_item}
use Rattle.muxandu_c.specs.Descriptions.{items_of}
use Rattle.muxandu_c.specs.declared.description_items.MuxanduItem.{MuxanduItem}
use Rattle.muxandu_c.specs.declared.refused.Refused.TheVariants as refused

-- a number of a component is one of sixteen bits
abbrev pub FitsComponent : Component → Type 0
FitsComponent (component.Ignore count) = count < 65_536
FitsComponent (component.YearSince first) = first < 65_536
FitsComponent c = ⊤

-- the number of an item is one of its type
abbrev pub FitsItem : Item → Type 0
FitsItem (item.Byte byte) = byte < 256
FitsItem (item.Part c) = FitsComponent c
FitsItem it = ⊤

-- items read back from their numbers, and numbers that are no item are refused
pub record ItemsAsNumbersReadBack : Type 0 where
  pub item : (it : Item) → FitsItem it → item_of (numbers_of_item it) ≡ Some it
  pub items : (items : List Item) → length items ≤ 128 → All (λ it. FitsItem it) items → items_of (map numbers_of_item items) ≡ Ok items
  pub fits : (v : MuxanduItem) (it : Item) → item_of v ≡ Some it → FitsItem it
  pub no_kind : (v : MuxanduItem) → (v.kind ≡ 0) ⊎ (33 < v.kind) → item_of v ≡ None
  pub refused : (numbers : List MuxanduItem) (v : MuxanduItem) → Contains numbers v → item_of v ≡ None → items_of numbers ≡ Err refused.Unit

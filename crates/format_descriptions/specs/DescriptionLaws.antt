-- The text of a description is read back as its items.
use Rattle.std.specs.Prelude.{◌≡◌, ◌≤◌, ℕ, List, length, Ok}
use Rattle.format_descriptions.specs.Descriptions.{items_of_description}
use Rattle.format_descriptions.specs.DescriptionTexts.{description_source}
use Rattle.format_descriptions.specs.declared.description_steps.DescriptionVersion.{DescriptionVersion}
use Rattle.format_descriptions.specs.declared.item.Item.{Item}

-- a text that items have in some room is read as these items, where there are enough places for them
abbrev pub WrittenDescriptionsReadBack : Type 0
WrittenDescriptionsReadBack =
    (version : DescriptionVersion) (items : List Item) (room : ℕ) (text : List ℕ) (places : ℕ)
    → description_source version room items ≡ Ok text → length items ≤ places → items_of_description version places text ≡ Ok items

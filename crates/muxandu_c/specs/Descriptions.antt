-- Descriptions as their texts and as the numbers of their items.
use Rattle.std.specs.Prelude.{ℕ, ◌==◌, ◌-◌, List, [], ◌∷◌, ◌++◌, map, length, drop, nat_lt, Option, Some, None, Result, Ok, Err, if◌then◌else◌}
use Rattle.format_descriptions.specs.Descriptions.{items_of_description}
use Rattle.format_descriptions.specs.DescriptionTexts.{description_source}
use Rattle.format_descriptions.specs.declared.description_refusal.DescriptionFault.{DescriptionFault}
use Rattle.format_descriptions.specs.declared.description_steps.DescriptionVersion.{DescriptionVersion}
use Rattle.format_descriptions.specs.declared.description_steps.DescriptionVersion.TheVariants as version
use Rattle.format_descriptions.specs.declared.item.Item.{Item}
use Rattle.format_descriptions.specs.declared.item_refusal.ItemFault.{ItemFault}
use Rattle.format_descriptions.specs.declared.item_refusal.ItemFault.TheVariants as item_fault
use Rattle.muxandu_c.specs.Answers.{status_number}
use Rattle.muxandu_c.specs.DescriptionItems.{item_of, numbers_of_item}
use Rattle.muxandu_c.specs.DescriptionReasons.{reason_of_fault, reason_of_item_fault}
use Rattle.muxandu_c.specs.Outcomes.{then_with, as_fault, fault_of}
use Rattle.muxandu_c.specs.declared.description_items.MuxanduItem.{MuxanduItem}
use Rattle.muxandu_c.specs.declared.outcomes.Fault.{Fault}
use Rattle.muxandu_c.specs.declared.refused.Refused.{Refused}
use Rattle.muxandu_c.specs.declared.refused.Refused.TheVariants as refused

-- the version of this number
abbrev pub version_numbered : ℕ → Option DescriptionVersion
version_numbered number = if number == 1 then Some version.One else (if number == 2 then Some version.Two else None)

-- ---- the items of a text

-- the fault of a text that is no description, by its place from the front
abbrev pub text_fault : List ℕ → DescriptionFault → ℕ → Fault
text_fault text fault left = record { place = length text - left; refused = refused.Syntax; reason = reason_of_fault fault }

abbrev pub items_or_fault : {A : Type 0} → List ℕ → Result A (DescriptionFault × ℕ) → Result A Fault
items_or_fault text (Ok items) = Ok items
items_or_fault text (Err fault) = Err (text_fault text fault.0 fault.1)

-- the items of a description, 128 of them at most
abbrev pub described_in : Option DescriptionVersion → List ℕ → Result (List Item) Fault
described_in None text = Err (fault_of refused.Unit)
described_in (Some v) text = items_or_fault text (items_of_description v 128 text)

abbrev pub described_items : ℕ → List ℕ → Result (List Item) Fault
described_items version text = described_in (version_numbered version) text

-- the number of the items, if there is room for all of them
abbrev pub size_in_room : ℕ → ℕ → Result ℕ Fault
size_in_room room size =
    if nat_lt room size then Err (record { place = size; refused = refused.Buffer; reason = 0 }) else Ok size

abbrev pub numbered_in_room : ℕ → Result (List Item) Fault → Result ℕ Fault
numbered_in_room room items = then_with items (λ items. size_in_room room (length items))

-- the places after a call: the numbers of the items at the front, if there is room for all
abbrev pub numbers_over : Result (List Item) Fault → List MuxanduItem → List MuxanduItem
numbers_over (Ok items) there =
    if nat_lt (length there) (length items) then there else map numbers_of_item items ++ drop (length items) there
numbers_over (Err fault) there = there

-- ---- the items of numbers

abbrev pub refused_if_none : Option Item → Result Item Refused
refused_if_none None = Err refused.Unit
refused_if_none (Some item) = Ok item

abbrev pub item_or_refused : MuxanduItem → Result Item Refused
item_or_refused v = refused_if_none (item_of v)

-- an item before the others
abbrev pub item_before : Result Item Refused → Result (List Item) Refused → Result (List Item) Refused
item_before item items = then_with item (λ item. then_with items (λ items. Ok (item ∷ items)))

abbrev pub all_items : List MuxanduItem → Result (List Item) Refused
all_items [] = Ok []
all_items (v ∷ numbers) = item_before (item_or_refused v) (all_items numbers)

-- the items of numbers, 128 of them at most
abbrev pub items_of : List MuxanduItem → Result (List Item) Refused
items_of numbers = if nat_lt 128 (length numbers) then Err refused.Unit else all_items numbers

-- ---- the text of items

-- the error of items that have no text
abbrev pub refused_items : ItemFault → Refused
refused_items item_fault.NoRoom = refused.Buffer
refused_items item_fault.NoName = refused.NoText
refused_items item_fault.NoCount = refused.NoText
refused_items item_fault.NoEscape = refused.NoText
refused_items item_fault.NoFirst = refused.NoText
refused_items item_fault.PastEnd = refused.NoText
refused_items item_fault.TooDeep = refused.NoText

abbrev pub source_fault : List Item → ItemFault → ℕ → Fault
source_fault items fault left = record { place = length items - left; refused = refused_items fault; reason = reason_of_item_fault fault }

abbrev pub source_or_fault : List Item → Result (List ℕ) (ItemFault × ℕ) → Result (List ℕ) Fault
source_or_fault items (Ok text) = Ok text
source_or_fault items (Err fault) = Err (source_fault items fault.0 fault.1)

abbrev pub source_of_items : DescriptionVersion → ℕ → List Item → Result (List ℕ) Fault
source_of_items v room items = source_or_fault items (description_source v room items)

abbrev pub source_in : Option DescriptionVersion → ℕ → List MuxanduItem → Result (List ℕ) Fault
source_in None room numbers = Err (fault_of refused.Unit)
source_in (Some v) room numbers = then_with (as_fault (items_of numbers)) (λ items. source_of_items v room items)

-- the text of the items of numbers, in at most this number of bytes
abbrev pub source_of : ℕ → ℕ → List MuxanduItem → Result (List ℕ) Fault
source_of version room numbers = source_in (version_numbered version) room numbers

-- the bytes in a buffer after a call: the text at the front, or the old bytes after an error
abbrev pub source_over : Result (List ℕ) Fault → List ℕ → List ℕ
source_over (Ok text) there = text ++ drop (length text) there
source_over (Err fault) there = there

-- ---- calls with many values

-- the values, if the numbers are items
abbrev pub unless_refused : {A B : Type 0} → Result A Refused → List B → List B
unless_refused (Ok items) values = values
unless_refused (Err refusal) values = []

abbrev pub with_items : {B : Type 0} → List MuxanduItem → List B → List B
with_items numbers values = unless_refused (items_of numbers) values

-- the status of a call: that of the numbers, or else another
abbrev pub status_before : {A : Type 0} → Result A Refused → ℕ → ℕ
status_before (Ok items) status = status
status_before (Err refusal) status = status_number refusal

abbrev pub status_with_items : List MuxanduItem → ℕ → ℕ
status_with_items numbers status = status_before (items_of numbers) status

-- the status of a call: BUFFER if the values have no room, or else another
abbrev pub room_before : {A B : Type 0} → List A → List B → ℕ → ℕ
room_before there values status = if nat_lt (length there) (length values) then status_number refused.Buffer else status

-- The date-time at the front of a text by a description, and the number of its bytes.
use Rattle.std.specs.Prelude.{ℕ, ◌-◌, List, length, Option, Some, None, Result, Ok, Err}
use Rattle.format_descriptions.specs.PartPlaces.{part_place}
use Rattle.format_descriptions.specs.Read.{front_of, no_parts}
use Rattle.format_descriptions.specs.declared.item.Item.{Item}
use Rattle.format_descriptions.specs.declared.part_places.PartPlace.{PartPlace}
use Rattle.format_descriptions.specs.declared.parts.Parts.{Parts}
use Rattle.format_descriptions.specs.declared.value_refusal.ValueRefusal.{ValueRefusal}
use Rattle.format_descriptions.specs.declared.value_refusal.ValueRefusal.TheVariants.{Missing, Wrong}
use Rattle.muxandu_c.specs.DescriptionReasons.{reason_of_field}
use Rattle.muxandu_c.specs.Descriptions.{described_items, items_of}
use Rattle.muxandu_c.specs.Outcomes.{then_with, as_fault, fault_of}
use Rattle.muxandu_c.specs.Parses.{Value, part_at_fault, refused_value, value_by_kind, syntax_fault}
use Rattle.muxandu_c.specs.declared.description_items.MuxanduItem.{MuxanduItem}
use Rattle.muxandu_c.specs.declared.outcomes.Fault.{Fault}
use Rattle.muxandu_c.specs.declared.refused.Refused.TheVariants as refused
use Rattle.muxandu_c.specs.declared.values.MuxanduDateTime.{MuxanduDateTime}

abbrev pub Front : Type 0
Front = Result (MuxanduDateTime × ℕ) Fault

-- the place of a part, or the size of a front that has no such part
abbrev pub place_or_size : ℕ → Option PartPlace → ℕ
place_or_size size None = size
place_or_size size (Some at) = at.place

abbrev pub place_in_front : List Item → List ℕ → ℕ → ValueRefusal → ℕ
place_in_front items text size (Missing part) = 0
place_in_front items text size (Wrong part) = place_or_size size (part_place items text part)

-- the error of parts that are no value: the part at fault, its error, and its place in the text
abbrev pub front_fault : List Item → List ℕ → ℕ → ValueRefusal → Fault
front_fault items text size refusal = record {
  place = place_in_front items text size refusal;
  refused = refused_value refusal;
  reason = reason_of_field (part_at_fault refusal);
}

-- the date-time of parts and the size of the front that gives them, or the error
abbrev pub value_in_front : List Item → List ℕ → ℕ → Option Value → Front
value_in_front items text size None = Err (fault_of refused.Unit)
value_in_front items text size (Some (Ok v)) = Ok (v, size)
value_in_front items text size (Some (Err refusal)) = Err (front_fault items text size refusal)

abbrev pub front_of_reading : ℕ → List Item → List ℕ → Result (Parts × List ℕ) ℕ → Front
front_of_reading kind items text (Ok read) = value_in_front items text (length text - length read.1) (value_by_kind kind read.0)
front_of_reading kind items text (Err left) = Err (syntax_fault text left)

-- the date-time at the front of a text, by items, by their numbers, and by the text of a description
abbrev pub front_of_text : ℕ → List Item → List ℕ → Front
front_of_text kind items text = front_of_reading kind items text (front_of items text no_parts)

abbrev pub front_by : ℕ → List MuxanduItem → List ℕ → Front
front_by kind numbers text = then_with (as_fault (items_of numbers)) (λ items. front_of_text kind items text)

abbrev pub front_text : ℕ → List ℕ → List ℕ → Front
front_text kind description text = then_with (described_items 2 description) (λ items. front_of_text kind items text)

-- the date-time of a front, and its size
abbrev pub front_value : Front → Result MuxanduDateTime Fault
front_value front = then_with front (λ read. Ok read.0)

abbrev pub front_size : Front → Result ℕ Fault
front_size front = then_with front (λ read. Ok read.1)

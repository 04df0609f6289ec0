-- A text that items read to its end has that text as its front.
use Rattle.std.proofs.Common.{◌≡◌, ℕ, ◌-◌, List, [], ◌∷◌, length, Option, Some, None, Result, Ok, Err, ap, ◌∙◌, arith}
use Rattle.format_descriptions.specs.Read.{front_of, at_end, no_parts}
use Rattle.format_descriptions.specs.declared.item.Item.{Item}
use Rattle.format_descriptions.specs.declared.parts.Parts.{Parts}
use Rattle.muxandu_c.specs.Descriptions.{items_of}
use Rattle.muxandu_c.specs.Outcomes.{then_with, as_fault}
use Rattle.muxandu_c.specs.ParseFronts.{value_in_front, front_of_reading, front_of_text, front_by}
use Rattle.muxandu_c.specs.Parses.{Value, value_or_fault, value_of_reading, value_of_text, value_by_kind, parsed_by}
use Rattle.muxandu_c.specs.declared.description_items.MuxanduItem.{MuxanduItem}
use Rattle.muxandu_c.specs.declared.refused.Refused.{Refused}
use Rattle.muxandu_c.specs.declared.values.MuxanduDateTime.{MuxanduDateTime}

whole_value : (items : List Item) (text : List ℕ) (n : ℕ) (found : Option Value) (v : MuxanduDateTime) → value_or_fault items text found ≡ Ok v
    → value_in_front items text n found ≡ Ok (v, n)
whole_value items text n None v e = absurd cc
whole_value items text n (Some (Ok w)) v e = cc
whole_value items text n (Some (Err refusal)) v e = absurd cc

whole_reading : (kind : ℕ) (items : List Item) (text : List ℕ) (read : Result (Parts × List ℕ) ℕ) (v : MuxanduDateTime)
    → value_of_reading kind items text (at_end read) ≡ Ok v → front_of_reading kind items text read ≡ Ok (v, length text)
whole_reading kind items text (Err left) v e = absurd cc
whole_reading kind items text (Ok (p, first ∷ rest)) v e = absurd cc
whole_reading kind items text (Ok (p, [])) v e =
    let size : length text - 0 ≡ length text = omega arith in
    whole_value items text (length text - 0) (value_by_kind kind p) v e ∙ ap (λ (n : ℕ). Ok (v, n)) size

whole_items : (kind : ℕ) (items : Result (List Item) Refused) (text : List ℕ) (v : MuxanduDateTime)
    → then_with (as_fault items) (λ found. value_of_text kind found text) ≡ Ok v
    → then_with (as_fault items) (λ found. front_of_text kind found text) ≡ Ok (v, length text)
whole_items kind (Ok items) text v e = whole_reading kind items text (front_of items text no_parts) v e
whole_items kind (Err refusal) text v e = absurd cc

pub front_by-whole : (kind : ℕ) (numbers : List MuxanduItem) (text : List ℕ) (v : MuxanduDateTime) → parsed_by kind numbers text ≡ Ok v
    → front_by kind numbers text ≡ Ok (v, length text)
front_by-whole kind numbers text v e = whole_items kind (items_of numbers) text v e

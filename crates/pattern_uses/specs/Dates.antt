-- The date of a text by a pattern.
use Rattle.std.specs.Prelude.{ℕ, ℤ, List, Option, Some, None, Result, Ok, Err}
use Rattle.format_descriptions.specs.Read.{items_at, no_parts}
use Rattle.format_descriptions.specs.Values.{date_of_parts}
use Rattle.format_descriptions.specs.declared.item.Item.{Item}
use Rattle.format_descriptions.specs.declared.parts.Parts.{Parts}
use Rattle.format_descriptions.specs.declared.value_refusal.ValueRefusal.{ValueRefusal}

-- a date, or none after an error
abbrev pub date_or_none : Result ℤ ValueRefusal → Option ℤ
date_or_none (Ok date) = Some date
date_or_none (Err refusal) = None

-- the date of parts that were read
abbrev pub date_if_read : Result Parts ℕ → Option ℤ
date_if_read (Ok parts) = date_or_none (date_of_parts parts)
date_if_read (Err left) = None

-- the date of a text that is written by a pattern, if it is one
abbrev pub date_in : List Item → List ℕ → Option ℤ
date_in pattern text = date_if_read (items_at pattern text no_parts)

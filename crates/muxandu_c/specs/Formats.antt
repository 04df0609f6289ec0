-- The text of a date-time by a description.
use Rattle.std.specs.Prelude.{ℕ, ℤ, pos, ◌==◌, ◌&&◌, Bool, true, false, List, length, nat_lt, Option, Some, None, Result, Ok, Err, if◌then◌else◌}
use Rattle.std.specs.List.{list_all}
use Rattle.calendar_values.specs.WallClock.{wall_day, wall_time}
use Rattle.offset_times.specs.Local.{Local}
use Rattle.format_descriptions.specs.Kinds.{lacking}
use Rattle.format_descriptions.specs.Written.{items_text}
use Rattle.format_descriptions.specs.declared.component.Component.{Component}
use Rattle.format_descriptions.specs.declared.format_refusal.FormatRefusal.{FormatRefusal}
use Rattle.format_descriptions.specs.declared.item.Item.{Item}
use Rattle.muxandu_c.specs.Answers.{and_then}
use Rattle.muxandu_c.specs.Descriptions.{described_items, items_of}
use Rattle.muxandu_c.specs.Outcomes.{then_with, error_alone}
use Rattle.muxandu_c.specs.Values.{date_time_value}
use Rattle.muxandu_c.specs.declared.description_items.MuxanduItem.{MuxanduItem}
use Rattle.muxandu_c.specs.declared.refused.Refused.{Refused}
use Rattle.muxandu_c.specs.declared.refused.Refused.TheVariants as refused
use Rattle.muxandu_c.specs.declared.values.MuxanduDateTime.{MuxanduDateTime}

-- the text has at most 64 bytes, all ASCII
abbrev pub fits : List ℕ → Bool
fits text = nat_lt (length text) 65 && list_all (λ c. nat_lt c 128) text

-- a text, if it fits
unfoldable pub fitting : List ℕ → Result (List ℕ) Refused
fitting text = if fits text then Ok text else Err refused.NoText

-- a text, unless the value lacks a component
abbrev pub unless_lacking : Option Component → List ℕ → Result (List ℕ) Refused
unless_lacking None text = fitting text
unless_lacking (Some component) text = Err refused.NoText

-- a text, or the error that there is none
abbrev pub text_or_refused : Result (List ℕ) FormatRefusal → Result (List ℕ) Refused
text_or_refused (Ok text) = Ok text
text_or_refused (Err refusal) = Err refused.NoText

-- the texts of the values that have not every part
abbrev pub plain_text_by : List Item → ℤ → Result (List ℕ) Refused
plain_text_by items w = unless_lacking (lacking true true false items) (items_text items (wall_day w) (wall_time w) (pos 0))

abbrev pub date_text_by : List Item → ℤ → Result (List ℕ) Refused
date_text_by items day = unless_lacking (lacking true false false items) (items_text items day 0 (pos 0))

abbrev pub time_text_by : List Item → ℕ → Result (List ℕ) Refused
time_text_by items clock = unless_lacking (lacking false true false items) (items_text items (pos 0) clock (pos 0))

abbrev pub offset_text_by : List Item → ℤ → Result (List ℕ) Refused
offset_text_by items o = unless_lacking (lacking false false true items) (items_text items (pos 0) 0 o)

-- the text of the parts that a kind of values has
unfoldable pub text_by_kind : ℕ → List Item → Local → Result (List ℕ) Refused
text_by_kind kind items at =
    if kind == 1 then fitting (items_text items (wall_day at.wall) (wall_time at.wall) at.offset)
    else (if kind == 2 then plain_text_by items at.wall
    else (if kind == 3 then date_text_by items (wall_day at.wall)
    else (if kind == 4 then time_text_by items (wall_time at.wall)
    else (if kind == 5 then offset_text_by items at.offset
    else Err refused.Unit))))

-- the text of a date-time, by items, by their numbers, and by the text of a description
abbrev pub text_of_value : ℕ → List Item → MuxanduDateTime → Result (List ℕ) Refused
text_of_value kind items v = and_then (date_time_value v) (λ at. text_by_kind kind items at)

abbrev pub formatted_by : ℕ → List MuxanduItem → MuxanduDateTime → Result (List ℕ) Refused
formatted_by kind numbers v = then_with (items_of numbers) (λ items. text_of_value kind items v)

abbrev pub formatted_text : ℕ → List ℕ → MuxanduDateTime → Result (List ℕ) Refused
formatted_text kind description v = then_with (error_alone (described_items 2 description)) (λ items. text_of_value kind items v)

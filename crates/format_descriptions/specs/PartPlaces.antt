-- The place of a part in a text: where the item begins that gives the part, and how many bytes it takes.
use Rattle.std.specs.Prelude.{ℕ, zero, suc, ◌+◌, ◌-◌, ◌&&◌, not, Bool, true, false, List, length, take, slice_get, if◌then◌else◌}
use Rattle.std.specs.Prelude.{Option, Some, None, Result, Ok, Err, is_some}
use Rattle.std.specs.Result.{result_map_both}
use Rattle.format_descriptions.specs.Read.{Front, front_of, no_parts}
use Rattle.format_descriptions.specs.declared.item.Item.{Item}
use Rattle.format_descriptions.specs.declared.item.Item.TheVariants.{Byte, Part, Optional, First, Or}
use Rattle.format_descriptions.specs.declared.part_places.PartPlace.{PartPlace}
use Rattle.format_descriptions.specs.declared.parts.Parts.{Parts}
use Rattle.format_descriptions.specs.declared.value_refusal.Field.{Field}
use Rattle.format_descriptions.specs.declared.value_refusal.Field.TheVariants as field

-- the parts have this one
unfoldable pub has_part : Field → Parts → Bool
has_part field.Year p = is_some p.year
has_part field.YearCentury p = is_some p.year_century
has_part field.YearLastTwo p = is_some p.year_last_two
has_part field.IsoYear p = is_some p.iso_year
has_part field.IsoYearCentury p = is_some p.iso_year_century
has_part field.IsoYearLastTwo p = is_some p.iso_year_last_two
has_part field.Month p = is_some p.month
has_part field.Day p = is_some p.day
has_part field.Ordinal p = is_some p.ordinal
has_part field.Weekday p = is_some p.weekday
has_part field.IsoWeek p = is_some p.iso_week
has_part field.SundayWeek p = is_some p.sunday_week
has_part field.MondayWeek p = is_some p.monday_week
has_part field.Hour p = is_some p.hour
has_part field.Hour12 p = is_some p.hour_12
has_part field.Period p = is_some p.is_afternoon
has_part field.Minute p = is_some p.minute
has_part field.Second p = is_some p.second
has_part field.Subsecond p = is_some p.nanosecond
has_part field.OffsetHour p = is_some p.offset_hour
has_part field.OffsetMinute p = is_some p.offset_minute
has_part field.OffsetSecond p = is_some p.offset_second
has_part field.UnixSecond p = is_some p.unix_second
has_part field.UnixMillisecond p = is_some p.unix_millisecond
has_part field.UnixMicrosecond p = is_some p.unix_microsecond
has_part field.UnixNanosecond p = is_some p.unix_nanosecond

-- an item is a component: no other item gives a part
abbrev pub is_component : Option Item → Bool
is_component None = false
is_component (Some (Byte byte)) = false
is_component (Some (Part component)) = true
is_component (Some (Optional size)) = false
is_component (Some (First size)) = false
is_component (Some (Or size)) = false

-- the parts that the first items read, and how many bytes they take, or the place of their fault
abbrev pub read_by_first : ℕ → List Item → List ℕ → Result (Parts × ℕ) ℕ
read_by_first count items text =
    result_map_both (λ read. (read.0, length text - length read.1)) (λ left. length text - left) (front_of (take count items) text no_parts)

-- the place of an item, by what the items before it read and those up to it: the first has no such part, and the second has it
abbrev pub place_by : Field → Result (Parts × ℕ) ℕ → Result (Parts × ℕ) ℕ → Option PartPlace
place_by part (Err place) upto = None
place_by part (Ok before) (Err place) = None
place_by part (Ok before) (Ok upto) =
    if not (has_part part before.0) && has_part part upto.0 then Some (record { place = before.1; length = upto.1 - before.1 }) else None

-- the place of the item of this index, if it is the one that gives the part
unfoldable pub place_of_item : ℕ → List Item → List ℕ → Field → Option PartPlace
place_of_item index items text part =
    if is_component (slice_get items index) then place_by part (read_by_first index items text) (read_by_first (index + 1) items text) else None

-- a place that was found, or else the result of the others
abbrev pub or_other : Option PartPlace → Option PartPlace → Option PartPlace
or_other (Some place) others = Some place
or_other None others = others

-- the place of the last of the first items that gives the part: a group that was tried in vain comes before the one that was read
unfoldable pub last_place : ℕ → List Item → List ℕ → Field → Option PartPlace
last_place zero items text part = None
last_place (suc count) items text part = or_other (place_of_item count items text part) (last_place count items text part)

-- the place of a part in a text, if all items read it with this part
abbrev pub place_if_read : List Item → List ℕ → Field → Front → Option PartPlace
place_if_read items text part (Err left) = None
place_if_read items text part (Ok read) = if has_part part read.0 then last_place (length items) items text part else None

-- the place of a part in a text
unfoldable pub part_place : List Item → List ℕ → Field → Option PartPlace
part_place items text part = place_if_read items text part (front_of items text no_parts)

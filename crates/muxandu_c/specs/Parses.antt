-- The date-time of a text by a description.
use Rattle.std.specs.Prelude.{ℕ, ◌+◌, ◌-◌, ℤ, pos, ◌==◌, ◌||◌, Bool, if◌then◌else◌, nat_lt, is_some, List, length, take, drop}
use Rattle.std.specs.Prelude.{Option, Some, None, Result, Ok, Err}
use Rattle.std.specs.Ordering.{int_eq}
use Rattle.calendar_values.specs.WallClock.{wall_clock}
use Rattle.offset_times.specs.Local.{Local, wall_at, shown_at}
use Rattle.format_descriptions.specs.ClockValues.{time_of_parts}
use Rattle.format_descriptions.specs.InstantValues.{instant_of_counts}
use Rattle.format_descriptions.specs.OffsetValues.{offset_of_parts}
use Rattle.format_descriptions.specs.PartPlaces.{part_place}
use Rattle.format_descriptions.specs.Read.{items_at, no_parts}
use Rattle.format_descriptions.specs.Values.{date_of_parts}
use Rattle.format_descriptions.specs.declared.item.Item.{Item}
use Rattle.format_descriptions.specs.declared.part_places.PartPlace.{PartPlace}
use Rattle.format_descriptions.specs.declared.parts.Parts.{Parts}
use Rattle.format_descriptions.specs.declared.value_refusal.Field.{Field}
use Rattle.format_descriptions.specs.declared.value_refusal.Field.TheVariants as field
use Rattle.format_descriptions.specs.declared.value_refusal.ValueRefusal.{ValueRefusal}
use Rattle.format_descriptions.specs.declared.value_refusal.ValueRefusal.TheVariants.{Missing, Wrong}
use Rattle.muxandu_c.specs.DescriptionReasons.{reason_of_field}
use Rattle.muxandu_c.specs.Descriptions.{described_items, items_of}
use Rattle.muxandu_c.specs.Outcomes.{then_with, as_fault, fault_of, error_alone}
use Rattle.muxandu_c.specs.Values.{date_time_parts, instant_if_any}
use Rattle.muxandu_c.specs.declared.description_items.MuxanduItem.{MuxanduItem}
use Rattle.muxandu_c.specs.declared.outcomes.Fault.{Fault}
use Rattle.muxandu_c.specs.declared.refused.Refused.{Refused}
use Rattle.muxandu_c.specs.declared.refused.Refused.TheVariants as refused
use Rattle.muxandu_c.specs.declared.values.MuxanduDateTime.{MuxanduDateTime}
use Rattle.muxandu_c.specs.declared.values.MuxanduSpan.{MuxanduSpan}

abbrev pub Value : Type 0
Value = Result MuxanduDateTime ValueRefusal

-- the parts of a date and a time of day at an offset
abbrev pub parts_of : ℤ → ℕ → ℤ → Value
parts_of day clock o = Ok (date_time_parts (wall_at (wall_clock day clock) o))

abbrev pub date_value : Parts → Value
date_value p = then_with (date_of_parts p) (λ day. parts_of day 0 (pos 0))

abbrev pub time_value : Parts → Value
time_value p = then_with (time_of_parts p) (λ clock. parts_of (pos 0) clock (pos 0))

abbrev pub utc_offset_value : Parts → Value
utc_offset_value p = then_with (offset_of_parts p) (λ o. parts_of (pos 0) 0 o)

abbrev pub plain_value : Parts → Value
plain_value p = then_with (date_of_parts p) (λ day. then_with (time_of_parts p) (λ clock. parts_of day clock (pos 0)))

abbrev pub offset_value : Parts → Value
offset_value p =
    then_with (date_of_parts p) (λ day. then_with (time_of_parts p) (λ clock. then_with (offset_of_parts p) (λ o. parts_of day clock o)))

-- ---- by a Unix timestamp

-- the offset of parts, or that of UTC
abbrev pub utc_if_missing : Result ℤ ValueRefusal → Result ℤ ValueRefusal
utc_if_missing (Ok o) = Ok o
utc_if_missing (Err (Missing part)) = Ok (pos 0)
utc_if_missing (Err (Wrong part)) = Err (Wrong part)

abbrev pub offset_or_utc : Parts → Result ℤ ValueRefusal
offset_or_utc p = utc_if_missing (offset_of_parts p)

abbrev pub number_or : Option ℕ → ℕ → Option ℕ
number_or None n = Some n
number_or (Some known) n = Some known

abbrev pub signed_or : Option ℤ → ℤ → Option ℤ
signed_or None n = Some n
signed_or (Some known) n = Some known

-- the parts with those of a date-time where the text does not give them
unfoldable pub with_rest : Parts → MuxanduDateTime → Parts
with_rest p v = record p {
  year = signed_or p.year v.year;
  month = number_or p.month v.month;
  day = number_or p.day v.day;
  hour = number_or p.hour v.hour;
  minute = number_or p.minute v.minute;
  second = number_or p.second v.second;
  nanosecond = number_or p.nanosecond v.nanosecond;
}

-- parts have a Unix timestamp, of any precision
abbrev pub has_count : Parts → Bool
has_count p = is_some p.unix_second || (is_some p.unix_millisecond || (is_some p.unix_microsecond || is_some p.unix_nanosecond))

-- the Unix timestamp that names the instant of parts: the finest that they have
unfoldable pub finest_count : Parts → Field
finest_count p =
    if is_some p.unix_nanosecond then field.UnixNanosecond
    else (if is_some p.unix_microsecond then field.UnixMicrosecond
    else (if is_some p.unix_millisecond then field.UnixMillisecond else field.UnixSecond))

-- a date-time of this wall clock, or the error of the Unix timestamp that names another
abbrev pub agreeing_value : Parts → ℤ → Local → Value
agreeing_value p wall at = if int_eq at.wall wall then Ok (date_time_parts at) else Err (Wrong (finest_count p))

-- the date-time of a wall clock, if all parts are those of it
abbrev pub whole_value : Parts → ℤ → ℤ → Value
whole_value whole wall o =
    then_with (date_of_parts whole) (λ day. then_with (time_of_parts whole) (λ clock.
    agreeing_value whole wall (wall_at (wall_clock day clock) o)))

abbrev pub shown_value : Parts → ℤ → ℤ → Value
shown_value p wall o = whole_value (with_rest p (date_time_parts (wall_at wall o))) wall o

abbrev pub shown_if_any : Parts → ℤ → Result ℤ Refused → Value
shown_if_any p o (Ok wall) = shown_value p wall o
shown_if_any p o (Err refusal) = Err (Wrong field.OffsetHour)

abbrev pub counted_value : Parts → ℤ → Value
counted_value p i = then_with (offset_or_utc p) (λ o. shown_if_any p o (instant_if_any (shown_at i o)))

abbrev pub value_by_counts : Parts → Result ℤ ValueRefusal → Value
value_by_counts p (Ok i) = counted_value p i
value_by_counts p (Err (Missing part)) = offset_value p
value_by_counts p (Err (Wrong part)) = Err (Wrong part)

-- the date-time of a Unix timestamp, or else of a date, a time of day and an offset
abbrev pub zoned_value : Parts → Value
zoned_value p = value_by_counts p (instant_of_counts p)

-- ---- by the kind of value

-- the date-time of parts, if the kind is one
unfoldable pub value_by_kind : ℕ → Parts → Option Value
value_by_kind kind p =
    if kind == 1 then Some (zoned_value p)
    else (if kind == 2 then Some (plain_value p)
    else (if kind == 3 then Some (date_value p)
    else (if kind == 4 then Some (time_value p)
    else (if kind == 5 then Some (utc_offset_value p)
    else None))))

-- ---- of a text

-- the place of a part in a text, or the length of a text that has no such part
abbrev pub place_or_end : List ℕ → Option PartPlace → ℕ
place_or_end text None = length text
place_or_end text (Some at) = at.place

-- the error of parts that are no value: the part at fault, its error, and its place in the text
abbrev pub part_at_fault : ValueRefusal → Field
part_at_fault (Missing part) = part
part_at_fault (Wrong part) = part

abbrev pub refused_value : ValueRefusal → Refused
refused_value (Missing part) = refused.Syntax
refused_value (Wrong part) = refused.Result

abbrev pub place_of_fault : List Item → List ℕ → ValueRefusal → ℕ
place_of_fault items text (Missing part) = 0
place_of_fault items text (Wrong part) = place_or_end text (part_place items text part)

abbrev pub value_fault : List Item → List ℕ → ValueRefusal → Fault
value_fault items text refusal = record {
  place = place_of_fault items text refusal;
  refused = refused_value refusal;
  reason = reason_of_field (part_at_fault refusal);
}

-- the date-time of parts, or the error
abbrev pub value_or_fault : List Item → List ℕ → Option Value → Result MuxanduDateTime Fault
value_or_fault items text None = Err (fault_of refused.Unit)
value_or_fault items text (Some (Ok v)) = Ok v
value_or_fault items text (Some (Err refusal)) = Err (value_fault items text refusal)

-- a text that is not written so, by how many bytes are left from the fault on
abbrev pub syntax_fault : List ℕ → ℕ → Fault
syntax_fault text left = record { place = length text - left; refused = refused.Syntax; reason = 0 }

abbrev pub value_of_reading : ℕ → List Item → List ℕ → Result Parts ℕ → Result MuxanduDateTime Fault
value_of_reading kind items text (Ok p) = value_or_fault items text (value_by_kind kind p)
value_of_reading kind items text (Err left) = Err (syntax_fault text left)

-- the date-time of a text, by items, by their numbers, and by the text of a description
abbrev pub value_of_text : ℕ → List Item → List ℕ → Result MuxanduDateTime Fault
value_of_text kind items text = value_of_reading kind items text (items_at items text no_parts)

abbrev pub parsed_by : ℕ → List MuxanduItem → List ℕ → Result MuxanduDateTime Fault
parsed_by kind numbers text = then_with (as_fault (items_of numbers)) (λ items. value_of_text kind items text)

abbrev pub parsed_text : ℕ → List ℕ → List ℕ → Result MuxanduDateTime Fault
parsed_text kind description text = then_with (described_items 2 description) (λ items. value_of_text kind items text)

-- the length of a text that has a date-time
abbrev pub size_read : ℕ → Result MuxanduDateTime Fault → Result ℕ Fault
size_read size answer = then_with answer (λ v. Ok size)

-- the value in a place after a call
abbrev pub value_over : Result MuxanduDateTime Fault → MuxanduDateTime → MuxanduDateTime
value_over (Ok v) there = v
value_over (Err fault) there = there

-- the date-time of a text, or its error alone
abbrev pub read_by : ℕ → List Item → List ℕ → Result MuxanduDateTime Refused
read_by kind items text = error_alone (value_of_text kind items text)

-- the date-time of the text at a span of a block
abbrev pub read_at : ℕ → List Item → List ℕ → MuxanduSpan → Result MuxanduDateTime Refused
read_at kind items block span =
    if nat_lt (length block) (span.start + span.length) then Err refused.Span
    else read_by kind items (take span.length (drop span.start block))

-- the same by the numbers of items
abbrev pub read_in : ℕ → List MuxanduItem → List ℕ → MuxanduSpan → Result MuxanduDateTime Refused
read_in kind numbers block span = then_with (items_of numbers) (λ items. read_at kind items block span)

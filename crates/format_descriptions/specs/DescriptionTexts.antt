-- The text of a description, from its items.
use Rattle.std.specs.Prelude.{ℕ, zero, suc, ◌+◌, ◌-◌, ◌==◌, ◌||◌, Bool, true, false, List, [], ◌∷◌, ◌++◌, length, codes, decimal, nat_lt}
use Rattle.std.specs.Prelude.{if◌then◌else◌, Option, Some, None, Result, Ok, Err}
use Rattle.format_descriptions.specs.Groups.{size_of}
use Rattle.format_descriptions.specs.ModifierTexts.{padding_modifier, sign_modifier, case_modifier, read_case_modifier, count_modifier}
use Rattle.format_descriptions.specs.ModifierTexts.{base_modifier, range_modifier, digits_modifier, precision_modifier}
use Rattle.format_descriptions.specs.ModifierTexts.{month_modifier, weekday_modifier, start_modifier, rule_modifier}
use Rattle.format_descriptions.specs.declared.component.Component.{Component}
use Rattle.format_descriptions.specs.declared.component.Component.TheVariants.{Year, YearCentury, YearLastTwo, Month, MonthName, Day, Ordinal}
use Rattle.format_descriptions.specs.declared.component.Component.TheVariants.{WeekdayName, WeekdayNumber, WeekNumber, Hour, Hour12, Period, Minute}
use Rattle.format_descriptions.specs.declared.component.Component.TheVariants.{Second, Subsecond}
use Rattle.format_descriptions.specs.declared.component.Component.TheVariants.{OffsetHour, OffsetMinute, OffsetSecond, UnixTimestamp, Ignore, End}
use Rattle.format_descriptions.specs.declared.component.Component.TheVariants.{IgnoreWeekday, IgnoreDigits, OffsetWord, YearSince, YearSix}
use Rattle.format_descriptions.specs.declared.component.Component.TheVariants.{HourFraction, MinuteFraction}
use Rattle.format_descriptions.specs.declared.description_steps.DescriptionVersion.{DescriptionVersion}
use Rattle.format_descriptions.specs.declared.description_steps.DescriptionVersion.TheVariants.{One as VersionOne, Two as VersionTwo}
use Rattle.format_descriptions.specs.declared.item.Item.{Item}
use Rattle.format_descriptions.specs.declared.item.Item.TheVariants.{Byte, Part, Optional, First, Or}
use Rattle.format_descriptions.specs.declared.item_refusal.ItemFault.{ItemFault}
use Rattle.format_descriptions.specs.declared.item_refusal.ItemFault.TheVariants.{NoName, NoCount, NoEscape, NoFirst, PastEnd, TooDeep, NoRoom}
use Rattle.format_descriptions.specs.declared.item_refusal.ItemRefusal.{ItemRefusal}

-- the text of a component in brackets, by its name and its modifiers
abbrev pub in_brackets : List ℕ → List ℕ → List ℕ → List ℕ → List ℕ → List ℕ
in_brackets name a b c d = name ++ (a ++ (b ++ (c ++ (d ++ codes "]"))))

-- the text of a component, or the fault if the language has none
unfoldable pub component_source : Component → Result (List ℕ) ItemFault
component_source (Year base sign padding range) =
    Ok (in_brackets (codes "[year") (padding_modifier padding) (sign_modifier sign) (base_modifier base) (range_modifier range))
component_source (YearCentury base sign padding range) =
    Ok (in_brackets (codes "[year repr:century") (padding_modifier padding) (sign_modifier sign) (base_modifier base) (range_modifier range))
component_source (YearLastTwo base padding) =
    Ok (in_brackets (codes "[year repr:last_two") (padding_modifier padding) (base_modifier base) [] [])
component_source (Month padding) = Ok (in_brackets (codes "[month") (padding_modifier padding) [] [] [])
component_source (MonthName form case) = Ok (in_brackets (codes "[month") (month_modifier form) (read_case_modifier case) [] [])
component_source (Day padding) = Ok (in_brackets (codes "[day") (padding_modifier padding) [] [] [])
component_source (Ordinal padding) = Ok (in_brackets (codes "[ordinal") (padding_modifier padding) [] [] [])
component_source (WeekdayName form case) = Ok (in_brackets (codes "[weekday") (weekday_modifier form) (read_case_modifier case) [] [])
component_source (WeekdayNumber start count) = Ok (in_brackets (codes "[weekday") (start_modifier start) (count_modifier count) [] [])
component_source (WeekNumber rule padding) = Ok (in_brackets (codes "[week_number") (rule_modifier rule) (padding_modifier padding) [] [])
component_source (Hour padding) = Ok (in_brackets (codes "[hour") (padding_modifier padding) [] [] [])
component_source (Hour12 padding) = Ok (in_brackets (codes "[hour repr:12") (padding_modifier padding) [] [] [])
component_source (Period case read) = Ok (in_brackets (codes "[period") (case_modifier case) (read_case_modifier read) [] [])
component_source (Minute padding) = Ok (in_brackets (codes "[minute") (padding_modifier padding) [] [] [])
component_source (Second padding) = Ok (in_brackets (codes "[second") (padding_modifier padding) [] [] [])
component_source (Subsecond digits) = Ok (in_brackets (codes "[subsecond") (digits_modifier digits) [] [] [])
component_source (OffsetHour sign padding) = Ok (in_brackets (codes "[offset_hour") (sign_modifier sign) (padding_modifier padding) [] [])
component_source (OffsetMinute padding) = Ok (in_brackets (codes "[offset_minute") (padding_modifier padding) [] [] [])
component_source (OffsetSecond padding) = Ok (in_brackets (codes "[offset_second") (padding_modifier padding) [] [] [])
component_source (UnixTimestamp precision sign) =
    Ok (in_brackets (codes "[unix_timestamp") (precision_modifier precision) (sign_modifier sign) [] [])
component_source (Ignore count) =
    if count == 0 || nat_lt 65_535 count then Err NoCount else Ok (in_brackets (codes "[ignore count:") (decimal count) [] [] [])
component_source End = Ok (in_brackets (codes "[end") [] [] [] [])
component_source (IgnoreWeekday form case) = Err NoName
component_source IgnoreDigits = Err NoName
component_source (OffsetWord word case) = Err NoName
component_source (YearSince first) = Err NoName
component_source (YearSix base) = Err NoName
component_source (HourFraction digits) = Err NoName
component_source (MinuteFraction digits) = Err NoName

-- bytes that are skipped have a count
abbrev pub is_ignore : Component → Bool
is_ignore (Ignore count) = true
is_ignore component = false

-- the text of a byte, or the fault if it is a `]` in a group of version 1
unfoldable pub byte_source : DescriptionVersion → Bool → ℕ → Result (List ℕ) ItemFault
byte_source VersionOne in_group b =
    if b == 91 then Ok (codes "[[") else (if b == 93 then (if in_group then Err NoEscape else Ok (codes "]")) else Ok (b ∷ []))
byte_source VersionTwo in_group b = if b == 91 || (b == 93 || b == 92) then Ok (92 ∷ b ∷ []) else Ok (b ∷ [])

-- the text of an item that is no head of a group, or its fault
abbrev pub plain_source : DescriptionVersion → Bool → Item → Result (List ℕ) ItemFault
plain_source version in_group (Byte byte) = byte_source version in_group byte
plain_source version in_group (Part component) = component_source component
plain_source version in_group (Optional size) = Ok []
plain_source version in_group (First size) = Ok []
plain_source version in_group (Or size) = Ok []

-- the text before a group, and that after it
abbrev pub group_opening : Item → List ℕ
group_opening (Byte byte) = []
group_opening (Part component) = []
group_opening (Optional size) = codes "[optional ["
group_opening (First size) = codes "[first ["
group_opening (Or size) = codes " ["

abbrev pub group_end : Item → List ℕ
group_end (Byte byte) = []
group_end (Part component) = []
group_end (Optional size) = codes "]]"
group_end (First size) = codes "]"
group_end (Or size) = codes "]"

-- another group can follow this one in the same brackets
abbrev pub is_several : Item → Bool
is_several (Byte byte) = false
is_several (Part component) = false
is_several (Optional size) = false
is_several (First size) = true
is_several (Or size) = true

-- the `]` that ends the first of several groups, unless another of them follows
abbrev pub end_of_several : Bool → Item → List ℕ
end_of_several false item = []
end_of_several true (Byte byte) = codes "]"
end_of_several true (Part component) = codes "]"
end_of_several true (Optional size) = codes "]"
end_of_several true (First size) = codes "]"
end_of_several true (Or size) = []

-- the fault of a group in place of another that does not follow it
abbrev pub fault_of_other : Bool → Item → Option ItemFault
fault_of_other several (Byte byte) = None
fault_of_other several (Part component) = None
fault_of_other several (Optional size) = None
fault_of_other several (First size) = None
fault_of_other several (Or size) = if several then None else Some NoFirst

-- the fault of a group of this size, of `count` items at most
abbrev pub fault_or : ℕ → ℕ → ℕ → Option ItemFault → Option ItemFault
fault_or depth size count (Some fault) = Some fault
fault_or depth size count None = if nat_lt count size then Some PastEnd else (if nat_lt 31 depth then Some TooDeep else None)

abbrev pub group_fault : ℕ → Bool → Item → ℕ → ℕ → Option ItemFault
group_fault depth several item size count = fault_or depth size count (fault_of_other several item)

-- a fault, and the number of items from it to the end
abbrev pub SourceFault : Type 0
SourceFault = ItemFault × ℕ

-- a text with one more piece, if the room has a place for it
abbrev pub with_piece : ℕ → ℕ → List ℕ → List ℕ → Result (List ℕ) SourceFault
with_piece room left text piece = if nat_lt room (length text + length piece) then Err (NoRoom, left) else Ok (text ++ piece)

-- the same with a piece that can have a fault
abbrev pub with_source : ℕ → ℕ → List ℕ → Result (List ℕ) ItemFault → Result (List ℕ) SourceFault
with_source room left text (Ok piece) = with_piece room left text piece
with_source room left text (Err fault) = Err (fault, left)

-- the same with a piece that follows a test
abbrev pub unless_fault : ℕ → ℕ → List ℕ → List ℕ → Option ItemFault → Result (List ℕ) SourceFault
unless_fault room left text piece None = with_piece room left text piece
unless_fault room left text piece (Some fault) = Err (fault, left)

-- what follows a text
abbrev pub and_then : Result (List ℕ) SourceFault → (List ℕ → Result (List ℕ) SourceFault) → Result (List ℕ) SourceFault
and_then (Ok text) next = next text
and_then (Err fault) next = Err fault

-- the text with an item and those after it
-- `others` gives the text with the other items, by depth, whether several groups can follow, the numbers of items to skip and to take, and the text before
abbrev pub source_by : DescriptionVersion → ℕ → ℕ → ℕ → Bool → Item → ℕ → (ℕ → Bool → ℕ → ℕ → List ℕ → Result (List ℕ) SourceFault)
    → List ℕ → Option ℕ → Result (List ℕ) SourceFault
source_by version room left depth several item count others text None =
    and_then (with_source room left text (plain_source version (nat_lt 0 depth) item)) (λ longer. others depth false 0 count longer)
source_by version room left depth several item count others text (Some size) =
    and_then (unless_fault room left text (group_opening item) (group_fault depth several item size count)) (λ opened.
    and_then (others (depth + 1) false 0 size opened) (λ own.
    and_then (with_piece room left own (group_end item)) (λ closed. others depth (is_several item) size (count - size) closed)))

-- the `]` of several groups at the end of the items
abbrev pub last_end : Bool → List ℕ
last_end several = if several then codes "]" else []

-- the text with items, of which `count` are taken after those to skip, in this number of groups
unfoldable pub source_from : DescriptionVersion → ℕ → ℕ → Bool → List Item → ℕ → ℕ → List ℕ → Result (List ℕ) SourceFault
source_from version room depth several [] skip count text = with_piece room 0 text (last_end several)
source_from version room depth several (item ∷ items) (suc skip) count text = source_from version room depth several items skip count text
source_from version room depth several (item ∷ items) zero zero text = with_piece room (length (item ∷ items)) text (last_end several)
source_from version room depth several (item ∷ items) zero (suc count) text =
    and_then (with_piece room (length (item ∷ items)) text (end_of_several several item)) (λ ended.
    source_by version room (length (item ∷ items)) depth several item count
    (λ d s skip n before. source_from version room d s items skip n before) ended (size_of item))

-- the length of a text, or the fault
abbrev pub source_length : Result (List ℕ) SourceFault → Result ℕ SourceFault
source_length (Ok text) = Ok (length text)
source_length (Err fault) = Err fault

-- the text of a description in a room of this size, or the first fault
abbrev pub description_source : DescriptionVersion → ℕ → List Item → Result (List ℕ) SourceFault
description_source version room items = source_from version room 0 false items 0 (length items) []

-- a fault by its place from the front
abbrev pub refusal_of_items : List Item → SourceFault → ItemRefusal
refusal_of_items items fault = record { place = length items - fault.1; fault = fault.0 }

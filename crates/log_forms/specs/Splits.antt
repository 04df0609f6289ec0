-- A text that is read in two parts, with the digits between them counted.
use Rattle.std.specs.Prelude.{ℕ, zero, suc, ◌-◌, ◌==◌, ◌&&◌, Bool, true, not, nat_lt, List, [], ◌∷◌, drop, length, if◌then◌else◌, Option, Some, None, Ok, Err}
use Rattle.std.specs.Char.{is_ascii_digit}
use Rattle.std.specs.List.{take_while}
use Rattle.format_descriptions.specs.Groups.{is_other}
use Rattle.format_descriptions.specs.Read.{Front, front_of, no_parts}
use Rattle.format_descriptions.specs.declared.item.Item.{Item}
use Rattle.format_descriptions.specs.declared.item.Item.TheVariants.{Byte, Part, Optional, First, Or}
use Rattle.format_descriptions.specs.declared.parts.Parts.{Parts}
use Rattle.log_forms.specs.Stamps.{has_digits}
use Rattle.log_forms.specs.declared.form.Form.{Form}

-- the parts that were read and the rest of the text, if the items were read
abbrev pub if_read : Front → Option (Parts × List ℕ)
if_read (Ok read) = Some read
if_read (Err left) = None

-- the reading of a text that has as many digits as the form counts
abbrev pub counted_reading : Form → List ℕ → Option (Parts × List ℕ)
counted_reading form text = if has_digits form text then if_read (front_of form.items text no_parts) else None

-- the reading by these items, after others that were read, if there are as many digits
abbrev pub reading_behind : List Item → ℕ → List ℕ → Front → Option (Parts × List ℕ)
reading_behind items digits text (Ok read) =
    if length (take_while is_ascii_digit (drop (length text - length read.1) text)) == digits then if_read (front_of items read.1 read.0) else None
reading_behind items digits text (Err left) = None

-- the reading by the first items, and then by the others, if as many digits follow
abbrev pub reading_in_two : List Item → List Item → ℕ → List ℕ → Parts → Option (Parts × List ℕ)
reading_in_two ahead items digits text p = reading_behind items digits text (front_of ahead text p)

-- the group of an item ends within the next items, of which there are so many
abbrev pub ends_within : ℕ → Item → Bool
ends_within count (Byte byte) = true
ends_within count (Part component) = true
ends_within count (Optional size) = not (nat_lt count size)
ends_within count (First size) = not (nat_lt count size)
ends_within count (Or size) = not (nat_lt count size)

-- no group goes past this number of first items, and no group after them is in place of one of theirs
unfoldable pub splits : ℕ → List Item → Bool
splits count [] = true
splits zero (item ∷ items) = not (is_other item)
splits (suc count) (item ∷ items) = ends_within count item && splits count items

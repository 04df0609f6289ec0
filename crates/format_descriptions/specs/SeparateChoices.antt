-- Choices of a description that are read where a text spells them: no group that a choice leaves out can begin with its next items.
use Rattle.std.specs.Prelude.{◌≡◌, ℕ, ◌==◌, ◌&&◌, ◌||◌, not, Bool, true, false, List, [], ◌∷◌, take, drop, IsTrue, Ok}
use Rattle.std.specs.Char.{is_ascii_alphabetic, is_ascii_digit}
use Rattle.format_descriptions.specs.Choices.{IsChoice}
use Rattle.format_descriptions.specs.Read.{items_at}
use Rattle.format_descriptions.specs.Spelled.{Spells, is_end, are_none, are_separate}
use Rattle.format_descriptions.specs.declared.component.Component.{Component}
use Rattle.format_descriptions.specs.declared.component.Component.TheVariants.{Year, YearCentury, YearLastTwo, Month, MonthName, Day, Ordinal}
use Rattle.format_descriptions.specs.declared.component.Component.TheVariants.{WeekdayName, WeekdayNumber, WeekNumber, Hour, Hour12, Period, Minute}
use Rattle.format_descriptions.specs.declared.component.Component.TheVariants.{Second, Subsecond}
use Rattle.format_descriptions.specs.declared.component.Component.TheVariants.{OffsetHour, OffsetMinute, OffsetSecond, UnixTimestamp, Ignore, End}
use Rattle.format_descriptions.specs.declared.component.Component.TheVariants.{IgnoreWeekday, IgnoreDigits, OffsetWord, YearSince, YearSix}
use Rattle.format_descriptions.specs.declared.component.Component.TheVariants.{HourFraction, MinuteFraction}
use Rattle.format_descriptions.specs.declared.item.Item.{Item}
use Rattle.format_descriptions.specs.declared.item.Item.TheVariants.{Byte, Part, Optional, First, Or}
use Rattle.format_descriptions.specs.declared.modifiers.Padding.{Padding}
use Rattle.format_descriptions.specs.declared.modifiers.Padding.TheVariants.{Zero, Space, Bare}
use Rattle.format_descriptions.specs.declared.modifiers.Sign.{Sign}
use Rattle.format_descriptions.specs.declared.modifiers.Sign.TheVariants.{Automatic, Mandatory}
use Rattle.format_descriptions.specs.declared.parts.Parts.{Parts}

-- ---- the byte that a text begins with

-- a number can begin with this byte, by its padding
abbrev pub begins_number : Padding → ℕ → Bool
begins_number Zero byte = is_ascii_digit byte
begins_number Space byte = is_ascii_digit byte || (byte == 32)
begins_number Bare byte = is_ascii_digit byte

-- a sign is this byte
abbrev pub begins_sign : ℕ → Bool
begins_sign byte = (byte == 45) || (byte == 43)

-- a number with a sign can begin with this byte
abbrev pub begins_signed : Sign → Padding → ℕ → Bool
begins_signed Automatic padding byte = begins_sign byte || begins_number padding byte
begins_signed Mandatory padding byte = begins_sign byte

-- a text of the component can begin with this byte: for a word, with each letter
abbrev pub can_begin : Component → ℕ → Bool
can_begin (Year base sign padding range) byte = begins_signed sign padding byte
can_begin (YearCentury base sign padding range) byte = begins_signed sign padding byte
can_begin (YearLastTwo base padding) byte = begins_number padding byte
can_begin (Month padding) byte = begins_number padding byte
can_begin (MonthName form case) byte = is_ascii_alphabetic byte
can_begin (Day padding) byte = begins_number padding byte
can_begin (Ordinal padding) byte = begins_number padding byte
can_begin (WeekdayName form case) byte = is_ascii_alphabetic byte
can_begin (WeekdayNumber start count) byte = is_ascii_digit byte
can_begin (WeekNumber rule padding) byte = begins_number padding byte
can_begin (Hour padding) byte = begins_number padding byte
can_begin (Hour12 padding) byte = begins_number padding byte
can_begin (Period case read) byte = is_ascii_alphabetic byte
can_begin (Minute padding) byte = begins_number padding byte
can_begin (Second padding) byte = begins_number padding byte
can_begin (Subsecond digits) byte = is_ascii_digit byte
can_begin (OffsetHour sign padding) byte = begins_signed sign padding byte
can_begin (OffsetMinute padding) byte = begins_number padding byte
can_begin (OffsetSecond padding) byte = begins_number padding byte
can_begin (UnixTimestamp precision sign) byte = begins_signed sign Bare byte
can_begin (Ignore count) byte = true
can_begin End byte = true
can_begin (IgnoreWeekday form case) byte = is_ascii_alphabetic byte
can_begin IgnoreDigits byte = is_ascii_digit byte
can_begin (OffsetWord word case) byte = is_ascii_alphabetic byte
can_begin (YearSince first) byte = is_ascii_digit byte
can_begin (YearSix base) byte = begins_sign byte
can_begin (HourFraction digits) byte = is_ascii_digit byte
can_begin (MinuteFraction digits) byte = is_ascii_digit byte

-- each text of the component has a byte
abbrev pub has_text : Component → Bool
has_text (Ignore count) = false
has_text End = false
has_text component = true

-- no text of the items begins with this byte
abbrev pub never_begin : ℕ → List Item → Bool
never_begin byte [] = true
never_begin byte (Byte other ∷ items) = not (other == byte)
never_begin byte (Part component ∷ items) = (is_end component && are_none items) || not (can_begin component byte)
never_begin byte (Optional size ∷ items) = false
never_begin byte (First size ∷ items) = false
never_begin byte (Or size ∷ items) = false

-- no text of the items begins as the component does
abbrev pub never_begin_as : Component → List Item → Bool
never_begin_as component [] = has_text component
never_begin_as component (Byte byte ∷ items) = not (can_begin component byte)
never_begin_as component (Part other ∷ items) = is_end other && (are_none items && has_text component)
never_begin_as component (Optional size ∷ items) = false
never_begin_as component (First size ∷ items) = false
never_begin_as component (Or size ∷ items) = false

-- the items of a group do not read what the items of a choice that follow read
abbrev pub never_read : List Item → List Item → Bool
never_read (Byte byte ∷ own) following = never_begin byte following
never_read (Part component ∷ own) following = never_begin_as component following
never_read own following = false

-- ---- choices

-- the items of a choice and those after it: a group is left out or replaced only where it never reads what the choice reads there
-- `true` begins with a group that replaces the one before it
pub data IsSeparateChoice : Bool → List Item → List Item → List Item → Type 0 where
  ends : {after : List Item} → IsSeparateChoice false [] after after
  byte : {byte : ℕ} {items after chosen : List Item} → IsSeparateChoice false items after chosen
      → IsSeparateChoice false (Byte byte ∷ items) after (Byte byte ∷ chosen)
  part : {component : Component} {items after chosen : List Item} → IsSeparateChoice false items after chosen
      → IsSeparateChoice false (Part component ∷ items) after (Part component ∷ chosen)
  optional : {size : ℕ} {items after others chosen : List Item} → IsSeparateChoice false (take size items) others chosen
      → IsSeparateChoice false (drop size items) after others → IsSeparateChoice false (Optional size ∷ items) after chosen
  optional_left_out : {size : ℕ} {items after chosen : List Item} → IsTrue (never_read (take size items) chosen)
      → IsSeparateChoice false (drop size items) after chosen → IsSeparateChoice false (Optional size ∷ items) after chosen
  first : {size : ℕ} {items after others chosen : List Item} → IsSeparateChoice false (take size items) others chosen
      → IsSeparateChoice false (drop size items) after others → IsSeparateChoice false (First size ∷ items) after chosen
  first_replaced : {size : ℕ} {items after chosen : List Item} → IsTrue (never_read (take size items) chosen)
      → IsSeparateChoice true (drop size items) after chosen → IsSeparateChoice false (First size ∷ items) after chosen
  other : {size : ℕ} {items after others chosen : List Item} → IsSeparateChoice false (take size items) others chosen
      → IsSeparateChoice false (drop size items) after others → IsSeparateChoice true (Or size ∷ items) after chosen
  other_replaced : {size : ℕ} {items after chosen : List Item} → IsTrue (never_read (take size items) chosen)
      → IsSeparateChoice true (drop size items) after chosen → IsSeparateChoice true (Or size ∷ items) after chosen
  other_left_out : {size : ℕ} {items after chosen : List Item} → IsSeparateChoice false (drop size items) after chosen
      → IsSeparateChoice false (Or size ∷ items) after chosen

-- a separate choice of items is a choice of them; and a text that spells it is read by the items, with the parts that it spells
pub record SeparateChoicesAreRead : Type 0 where
  pub choice : (items chosen : List Item) → IsSeparateChoice false items [] chosen → IsChoice false items chosen
  pub read : (items chosen : List Item) (text : List ℕ) (p q : Parts) → IsSeparateChoice false items [] chosen → IsTrue (are_separate chosen)
      → Spells chosen text p q → items_at items text p ≡ Ok q

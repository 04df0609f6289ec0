-- The parts that a description writes of a value name that value again.
use Rattle.std.specs.Prelude.{◌≡◌, ℕ, Bool, List, ℤ, IsTrue, Ok, is_some, ◌&&◌}
use Rattle.calendar_values.specs.Range.{IsDay}
use Rattle.format_descriptions.specs.ClockValues.{tells_time, time_of_parts}
use Rattle.format_descriptions.specs.OffsetValues.{tells_offset, offset_of_parts}
use Rattle.format_descriptions.specs.Read.{no_parts}
use Rattle.format_descriptions.specs.RoundTrips.{parts_of, AreWritten}
use Rattle.format_descriptions.specs.Values.{tells_date, date_of_parts}
use Rattle.format_descriptions.specs.declared.item.Item.{Item}
use Rattle.format_descriptions.specs.declared.parts.Parts.{Parts}

-- the parts of a time of day down to its nanosecond
abbrev pub tells_clock : Parts → Bool
tells_clock p = tells_time p && (is_some p.minute && (is_some p.second && is_some p.nanosecond))

-- the sign and the parts of an offset down to its second
abbrev pub tells_whole_offset : Parts → Bool
tells_whole_offset p = tells_offset p && (is_some p.is_west && (is_some p.offset_minute && is_some p.offset_second))

-- these parts name this date, this time of day and this offset again, wherever they suffice for one
pub record NamesAgain (p : Parts) (day : ℤ) (clock : ℕ) (o : ℤ) : Type 0 where
  pub date : IsTrue (tells_date p) → date_of_parts p ≡ Ok day
  pub time : IsTrue (tells_clock p) → time_of_parts p ≡ Ok clock
  pub offset : IsTrue (tells_whole_offset p) → offset_of_parts p ≡ Ok o

-- the parts that a description writes of a value name that value, and a clear description reads these parts
abbrev pub WrittenValuesAreNamed : Type 0
WrittenValuesAreNamed =
    (items : List Item) (day : ℤ) (clock : ℕ) (o : ℤ) → IsDay day → AreWritten day clock o
    → NamesAgain (parts_of items day clock o no_parts) day clock o

-- Texts that descriptions spell: each component has a text for its number, in digits, with a sign, or as a name.
use Rattle.std.specs.Char.{is_ascii_digit}
use Rattle.std.specs.List.{list_all}
use Rattle.std.specs.Prelude.{◌≡◌, ℕ, ◌+◌, ◌*◌, ◌^◌, ◌<◌, ◌≤◌, ◌&&◌, ◌||◌, not, Bool, true, false, List, [], ◌∷◌, ◌++◌, length, Ok, IsTrue}
use Rattle.calendar_values.specs.Digits.{last_digits}
use Rattle.format_descriptions.specs.Groups.{has_no_group}
use Rattle.format_descriptions.specs.Modifiers.{utc_word, digit_count, unix_digits}
use Rattle.format_descriptions.specs.Names.{name_of_month, name_of_weekday}
use Rattle.format_descriptions.specs.Read.{items_at, agrees, with_part}
use Rattle.format_descriptions.specs.Reading.{year_since}
use Rattle.format_descriptions.specs.RoundTrips.{takes_digits, starts_apart}
use Rattle.format_descriptions.specs.SpelledPieces.{IsDecimal, IsUnsigned, IsSigned, more_digits, IsSubsecond, IsWord, first_hour}
use Rattle.format_descriptions.specs.Written.{name_in_form, period_text, weekday_number_by}
use Rattle.format_descriptions.specs.declared.component.Component.{Component}
use Rattle.format_descriptions.specs.declared.component.Component.TheVariants.{Year, YearCentury, YearLastTwo, Month, MonthName, Day, Ordinal}
use Rattle.format_descriptions.specs.declared.component.Component.TheVariants.{WeekdayName, WeekdayNumber, WeekNumber, Hour, Hour12, Period, Minute}
use Rattle.format_descriptions.specs.declared.component.Component.TheVariants.{Second, Subsecond}
use Rattle.format_descriptions.specs.declared.component.Component.TheVariants.{OffsetHour, OffsetMinute, OffsetSecond, UnixTimestamp, Ignore, End}
use Rattle.format_descriptions.specs.declared.component.Component.TheVariants.{IgnoreWeekday, IgnoreDigits, OffsetWord, YearSince, YearSix}
use Rattle.format_descriptions.specs.declared.component.Component.TheVariants.{HourFraction, MinuteFraction}
use Rattle.format_descriptions.specs.declared.item.Item.{Item}
use Rattle.format_descriptions.specs.declared.item.Item.TheVariants.{Byte, Part, Optional, First, Or}
use Rattle.format_descriptions.specs.declared.modifiers.Padding.TheVariants.{Zero, Bare}
use Rattle.format_descriptions.specs.declared.modifiers.Sign.TheVariants.{Mandatory}
use Rattle.format_descriptions.specs.declared.modifiers.YearRange.TheVariants.{Extended}
use Rattle.format_descriptions.specs.declared.parts.Parts.{Parts}

-- the text of a number of a component
abbrev pub IsText : Component → Bool × ℕ → List ℕ → Type 0
IsText (Year base sign padding range) n piece = IsSigned sign padding 4 (more_digits range) n piece
IsText (YearCentury base sign padding range) n piece = IsSigned sign padding 2 (more_digits range) n piece
IsText (YearLastTwo base padding) n piece = IsUnsigned padding 2 n piece
IsText (Month padding) n piece = IsUnsigned padding 2 n piece
IsText (MonthName form case) n piece = (n.0 ≡ false) × (1 ≤ n.1) × (n.1 ≤ 12) × IsWord case (name_in_form form (name_of_month n.1)) piece
IsText (Day padding) n piece = IsUnsigned padding 2 n piece
IsText (Ordinal padding) n piece = IsUnsigned padding 3 n piece
IsText (WeekdayName form case) n piece = (n.0 ≡ false) × (n.1 < 7) × IsWord case (name_in_form form (name_of_weekday n.1)) piece
IsText (WeekdayNumber start count) n piece = (n.0 ≡ false) × (n.1 < 7) × (piece ≡ (48 + weekday_number_by start count n.1) ∷ [])
IsText (WeekNumber rule padding) n piece = IsUnsigned padding 2 n piece
IsText (Hour padding) n piece = IsUnsigned padding 2 n piece
IsText (Hour12 padding) n piece = IsUnsigned padding 2 n piece
IsText (Period case read) n piece = (n.1 ≡ 0) × IsWord read (period_text case (first_hour n.0)) piece
IsText (Minute padding) n piece = IsUnsigned padding 2 n piece
IsText (Second padding) n piece = IsUnsigned padding 2 n piece
IsText (Subsecond digits) n piece = (n.0 ≡ false) × IsSubsecond (digit_count digits) n.1 piece
IsText (OffsetHour sign padding) n piece = IsSigned sign padding 2 0 n piece
IsText (OffsetMinute padding) n piece = IsUnsigned padding 2 n piece
IsText (OffsetSecond padding) n piece = IsUnsigned padding 2 n piece
IsText (UnixTimestamp precision sign) n piece = IsSigned sign Bare (unix_digits precision) 0 n piece
IsText (Ignore count) n piece = (n ≡ (false, 0)) × (length piece ≡ count)
IsText End n piece = (n ≡ (false, 0)) × (piece ≡ [])
IsText (IgnoreWeekday form case) n piece = (n.0 ≡ false) × (n.1 < 7) × IsWord case (name_in_form form (name_of_weekday n.1)) piece
IsText IgnoreDigits n piece = (n ≡ (false, 0)) × IsTrue (list_all is_ascii_digit piece) × (1 ≤ length piece)
IsText (OffsetWord word case) n piece = (n ≡ (false, 0)) × IsWord case (utc_word word) piece
IsText (YearSince first) n piece = (n.0 ≡ false) × (two : ℕ) × IsDecimal 2 2 two piece × (n.1 ≡ year_since first two)
IsText (YearSix base) n piece = IsSigned Mandatory Zero 6 0 n piece
IsText (HourFraction digits) n piece = (n.0 ≡ false) × (part : ℕ) × IsSubsecond (digit_count digits) part piece × (n.1 ≡ part * 3_600)
IsText (MinuteFraction digits) n piece = (n.0 ≡ false) × (part : ℕ) × IsSubsecond (digit_count digits) part piece × (n.1 ≡ part * 60)

-- a text spells items one after another: their bytes, and numbers that agree with the parts before, which become these parts
abbrev pub Spells : List Item → List ℕ → Parts → Parts → Type 0
Spells [] text p q = (text ≡ []) × (p ≡ q)
Spells (Byte byte ∷ items) text p q = (rest : List ℕ) × (text ≡ byte ∷ rest) × Spells items rest p q
Spells (Part c ∷ items) text p q =
    (n : Bool × ℕ) × (piece : List ℕ) × (rest : List ℕ) × (text ≡ piece ++ rest) × IsText c n piece × (agrees c n p ≡ true)
    × Spells items rest (with_part c n p) q
Spells (Optional size ∷ items) text p q = Spells items text p q
Spells (First size ∷ items) text p q = Spells items text p q
Spells (Or size ∷ items) text p q = Spells items text p q

-- the component reads each digit that follows it, as far as it has more
abbrev pub reads_digits : Component → Bool
reads_digits (Year base sign padding Extended) = true
reads_digits (YearCentury base sign padding Extended) = true
reads_digits component = takes_digits component

-- the component reads the end of a text
abbrev pub is_end : Component → Bool
is_end End = true
is_end component = false

-- there are no items
abbrev pub are_none : List Item → Bool
are_none [] = true
are_none (item ∷ items) = false

-- the items may follow the component: they begin with no digit that it reads, and none follows the end
abbrev pub may_follow : Component → List Item → Bool
may_follow component items = (not (is_end component) || are_none items) && (not (reads_digits component) || starts_apart items)

-- each item is a byte or a component that the items after it may follow
abbrev pub are_separate : List Item → Bool
are_separate [] = true
are_separate (Byte byte ∷ items) = are_separate items
are_separate (Part component ∷ items) = may_follow component items && are_separate items
are_separate (Optional size ∷ items) = false
are_separate (First size ∷ items) = false
are_separate (Or size ∷ items) = false

-- the parts that items without groups read are those of numbers that the text spells; where each item ends by itself, they read
-- each text that is so spelled; and the last digits of a number that has no more digits write this number
pub record TextsAreReadAsSpelled : Type 0 where
  pub read : (items : List Item) (text : List ℕ) (p q : Parts) → IsTrue (has_no_group items) → items_at items text p ≡ Ok q
      → Spells items text p q
  pub spelled : (items : List Item) (text : List ℕ) (p q : Parts) → IsTrue (are_separate items) → Spells items text p q
      → items_at items text p ≡ Ok q
  pub digits : (count n : ℕ) → n < 10 ^ count → IsDecimal count count n (last_digits count n)

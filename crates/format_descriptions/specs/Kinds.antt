-- The first component for which a value has no part.
use Rattle.std.specs.Prelude.{Bool, true, ◌&&◌, List, [], ◌∷◌, if◌then◌else◌, Option, Some, None}
use Rattle.format_descriptions.specs.Groups.{written_items}
use Rattle.format_descriptions.specs.declared.component.Component.{Component}
use Rattle.format_descriptions.specs.declared.component.Component.TheVariants.{Year, YearCentury, YearLastTwo, Month, MonthName, Day, Ordinal}
use Rattle.format_descriptions.specs.declared.component.Component.TheVariants.{WeekdayName, WeekdayNumber, WeekNumber, Hour, Hour12, Period, Minute}
use Rattle.format_descriptions.specs.declared.component.Component.TheVariants.{Second, Subsecond}
use Rattle.format_descriptions.specs.declared.component.Component.TheVariants.{OffsetHour, OffsetMinute, OffsetSecond, UnixTimestamp, Ignore, End}
use Rattle.format_descriptions.specs.declared.component.Component.TheVariants.{IgnoreWeekday, IgnoreDigits, OffsetWord, YearSince, YearSix}
use Rattle.format_descriptions.specs.declared.component.Component.TheVariants.{HourFraction, MinuteFraction}
use Rattle.format_descriptions.specs.declared.item.Item.{Item}
use Rattle.format_descriptions.specs.declared.item.Item.TheVariants.{Byte, Part, Optional, First, Or}

-- one of three booleans, by the kind of a component: a date, a time of day or an offset
-- a Unix timestamp needs all three, and a component without a kind needs none
abbrev pub by_kind : Component → Bool → Bool → Bool → Bool
by_kind (Year base sign padding range) date time offset = date
by_kind (YearCentury base sign padding range) date time offset = date
by_kind (YearLastTwo base padding) date time offset = date
by_kind (Month padding) date time offset = date
by_kind (MonthName form case) date time offset = date
by_kind (Day padding) date time offset = date
by_kind (Ordinal padding) date time offset = date
by_kind (WeekdayName form case) date time offset = date
by_kind (WeekdayNumber start count) date time offset = date
by_kind (WeekNumber rule padding) date time offset = date
by_kind (Hour padding) date time offset = time
by_kind (Hour12 padding) date time offset = time
by_kind (Period case read) date time offset = time
by_kind (Minute padding) date time offset = time
by_kind (Second padding) date time offset = time
by_kind (Subsecond digits) date time offset = time
by_kind (OffsetHour sign padding) date time offset = offset
by_kind (OffsetMinute padding) date time offset = offset
by_kind (OffsetSecond padding) date time offset = offset
by_kind (UnixTimestamp precision sign) date time offset = date && (time && offset)
by_kind (Ignore count) date time offset = true
by_kind End date time offset = true
by_kind (IgnoreWeekday form case) date time offset = date
by_kind IgnoreDigits date time offset = true
by_kind (OffsetWord word case) date time offset = offset
by_kind (YearSince first) date time offset = date
by_kind (YearSix base) date time offset = date
by_kind (HourFraction digits) date time offset = time
by_kind (MinuteFraction digits) date time offset = time

-- the first component of these items whose kind the value lacks
unfoldable pub flat_lacking : Bool → Bool → Bool → List Item → Option Component
flat_lacking date time offset [] = None
flat_lacking date time offset (Byte byte ∷ items) = flat_lacking date time offset items
flat_lacking date time offset (Optional size ∷ items) = flat_lacking date time offset items
flat_lacking date time offset (First size ∷ items) = flat_lacking date time offset items
flat_lacking date time offset (Or size ∷ items) = flat_lacking date time offset items
flat_lacking date time offset (Part component ∷ items) =
    if by_kind component date time offset then flat_lacking date time offset items else Some component

-- the first component that a description writes and whose kind the value lacks
abbrev pub lacking : Bool → Bool → Bool → List Item → Option Component
lacking date time offset items = flat_lacking date time offset (written_items items)

-- The reading of a text by a description: each item takes its bytes from the front.
use Rattle.std.specs.Prelude.{ℕ, zero, suc, ◌-◌, ◌/◌, ◌%◌, min, ◌&&◌, Bool, true, List, [], ◌∷◌, length, if◌then◌else◌}
use Rattle.std.specs.Prelude.{Option, Some, None, Result, Ok, Err}
use Rattle.calendar_values.specs.Clock.{minute_of, second_of, nanosecond_of}
use Rattle.rfc3339.specs.Reading.{◌>>=◌, mark_at}
use Rattle.format_descriptions.specs.Groups.{size_of, is_other, fault_after}
use Rattle.format_descriptions.specs.Modifiers.{digit_count, unix_digits, utc_word}
use Rattle.format_descriptions.specs.Reading.{two_at, three_at, fraction_at, unsigned, signed_year_at, signed_century_at, signed_hours_at, month_at}
use Rattle.format_descriptions.specs.Reading.{weekday_at, weekday_number_at}
use Rattle.format_descriptions.specs.Reading.{period_at, unix_at, ignored_at, end_at, nothing, word_at, past_digits, year_since_at, six_at, in_unit}
use Rattle.format_descriptions.specs.PartTests.{signed, fits, fits_signed, fits_choice}
use Rattle.format_descriptions.specs.declared.component.Component.{Component}
use Rattle.format_descriptions.specs.declared.component.Component.TheVariants.{Year, YearCentury, YearLastTwo, Month, MonthName, Day, Ordinal}
use Rattle.format_descriptions.specs.declared.component.Component.TheVariants.{WeekdayName, WeekdayNumber, WeekNumber, Hour, Hour12, Period, Minute}
use Rattle.format_descriptions.specs.declared.component.Component.TheVariants.{Second, Subsecond}
use Rattle.format_descriptions.specs.declared.component.Component.TheVariants.{OffsetHour, OffsetMinute, OffsetSecond, UnixTimestamp, Ignore, End}
use Rattle.format_descriptions.specs.declared.component.Component.TheVariants.{IgnoreWeekday, IgnoreDigits, OffsetWord, YearSince, YearSix}
use Rattle.format_descriptions.specs.declared.component.Component.TheVariants.{HourFraction, MinuteFraction}
use Rattle.format_descriptions.specs.declared.item.Item.{Item}
use Rattle.format_descriptions.specs.declared.item.Item.TheVariants.{Byte, Part, Optional, First, Or}
use Rattle.format_descriptions.specs.declared.modifiers.UnixPrecision.TheVariants.{Seconds, Milliseconds, Microseconds, Nanoseconds}
use Rattle.format_descriptions.specs.declared.modifiers.WeekRule.TheVariants.{Iso, Sunday, Monday}
use Rattle.format_descriptions.specs.declared.modifiers.YearBase.TheVariants.{Calendar, IsoWeek}
use Rattle.format_descriptions.specs.declared.parts.Parts.{Parts}

-- the sign and the number of a component, and the rest of the text
unfoldable pub component_at : Component → List ℕ → Option ((Bool × ℕ) × List ℕ)
component_at (Year base sign padding range) text = signed_year_at sign padding range text
component_at (YearCentury base sign padding range) text = signed_century_at sign padding range text
component_at (YearLastTwo base padding) text = unsigned (two_at padding text)
component_at (Month padding) text = unsigned (two_at padding text)
component_at (MonthName form case) text = unsigned (month_at form case 12 text)
component_at (Day padding) text = unsigned (two_at padding text)
component_at (Ordinal padding) text = unsigned (three_at padding text)
component_at (WeekdayName form case) text = unsigned (weekday_at form case 7 text)
component_at (WeekdayNumber start count) text = unsigned (weekday_number_at start count text)
component_at (WeekNumber rule padding) text = unsigned (two_at padding text)
component_at (Hour padding) text = unsigned (two_at padding text)
component_at (Hour12 padding) text = unsigned (two_at padding text)
component_at (Period case read) text = period_at case read text
component_at (Minute padding) text = unsigned (two_at padding text)
component_at (Second padding) text = unsigned (two_at padding text)
component_at (Subsecond digits) text = unsigned (fraction_at (digit_count digits) text)
component_at (OffsetHour sign padding) text = signed_hours_at sign padding text
component_at (OffsetMinute padding) text = unsigned (two_at padding text)
component_at (OffsetSecond padding) text = unsigned (two_at padding text)
component_at (UnixTimestamp precision sign) text = unix_at sign (unix_digits precision) text
component_at (Ignore count) text = nothing (ignored_at count text)
component_at End text = nothing (end_at text)
component_at (IgnoreWeekday form case) text = unsigned (weekday_at form case 7 text)
component_at IgnoreDigits text = nothing (past_digits text)
component_at (OffsetWord word case) text = nothing (word_at case (utc_word word) text)
component_at (YearSince first) text = unsigned (year_since_at first text)
component_at (YearSix base) text = six_at text
component_at (HourFraction digits) text = unsigned (in_unit 3_600 (fraction_at (digit_count digits) text))
component_at (MinuteFraction digits) text = unsigned (in_unit 60 (fraction_at (digit_count digits) text))

-- the value of a component does not contradict the parts so far
unfoldable pub agrees : Component → Bool × ℕ → Parts → Bool
agrees (Year Calendar sign padding range) n p = fits_signed p.year (signed n.0 n.1)
agrees (Year IsoWeek sign padding range) n p = fits_signed p.iso_year (signed n.0 n.1)
agrees (YearCentury Calendar sign padding range) n p = fits_choice p.is_before_zero n.0 && fits p.year_century n.1
agrees (YearCentury IsoWeek sign padding range) n p = fits_choice p.is_iso_before_zero n.0 && fits p.iso_year_century n.1
agrees (YearLastTwo Calendar padding) n p = fits p.year_last_two n.1
agrees (YearLastTwo IsoWeek padding) n p = fits p.iso_year_last_two n.1
agrees (Month padding) n p = fits p.month n.1
agrees (MonthName form case) n p = fits p.month n.1
agrees (Day padding) n p = fits p.day n.1
agrees (Ordinal padding) n p = fits p.ordinal n.1
agrees (WeekdayName form case) n p = fits p.weekday n.1
agrees (WeekdayNumber start count) n p = fits p.weekday n.1
agrees (WeekNumber Iso padding) n p = fits p.iso_week n.1
agrees (WeekNumber Sunday padding) n p = fits p.sunday_week n.1
agrees (WeekNumber Monday padding) n p = fits p.monday_week n.1
agrees (Hour padding) n p = fits p.hour n.1
agrees (Hour12 padding) n p = fits p.hour_12 n.1
agrees (Period case read) n p = fits_choice p.is_afternoon n.0
agrees (Minute padding) n p = fits p.minute n.1
agrees (Second padding) n p = fits p.second n.1
agrees (Subsecond digits) n p = fits p.nanosecond n.1
agrees (OffsetHour sign padding) n p = fits_choice p.is_west n.0 && fits p.offset_hour n.1
agrees (OffsetMinute padding) n p = fits p.offset_minute n.1
agrees (OffsetSecond padding) n p = fits p.offset_second n.1
agrees (UnixTimestamp Seconds sign) n p = fits_signed p.unix_second (signed n.0 n.1)
agrees (UnixTimestamp Milliseconds sign) n p = fits_signed p.unix_millisecond (signed n.0 n.1)
agrees (UnixTimestamp Microseconds sign) n p = fits_signed p.unix_microsecond (signed n.0 n.1)
agrees (UnixTimestamp Nanoseconds sign) n p = fits_signed p.unix_nanosecond (signed n.0 n.1)
agrees (Ignore count) n p = true
agrees End n p = true
agrees (IgnoreWeekday form case) n p = true
agrees IgnoreDigits n p = true
agrees (OffsetWord word case) n p =
    fits_choice p.is_west n.0 && (fits p.offset_hour (n.1 / 3_600) && (fits p.offset_minute (n.1 / 60 % 60) && fits p.offset_second (n.1 % 60)))
agrees (YearSince first) n p = fits_signed p.year (signed n.0 n.1)
agrees (YearSix Calendar) n p = fits_signed p.year (signed n.0 n.1)
agrees (YearSix IsoWeek) n p = fits_signed p.iso_year (signed n.0 n.1)
agrees (HourFraction digits) n p =
    fits p.minute (minute_of n.1) && (fits p.second (second_of n.1) && fits p.nanosecond (nanosecond_of n.1))
agrees (MinuteFraction digits) n p = fits p.second (second_of n.1) && fits p.nanosecond (nanosecond_of n.1)

-- the parts with the value of a component
unfoldable pub with_part : Component → Bool × ℕ → Parts → Parts
with_part (Year Calendar sign padding range) n p = record p { year = Some (signed n.0 n.1) }
with_part (Year IsoWeek sign padding range) n p = record p { iso_year = Some (signed n.0 n.1) }
with_part (YearCentury Calendar sign padding range) n p = record p { is_before_zero = Some n.0; year_century = Some n.1 }
with_part (YearCentury IsoWeek sign padding range) n p = record p { is_iso_before_zero = Some n.0; iso_year_century = Some n.1 }
with_part (YearLastTwo Calendar padding) n p = record p { year_last_two = Some n.1 }
with_part (YearLastTwo IsoWeek padding) n p = record p { iso_year_last_two = Some n.1 }
with_part (Month padding) n p = record p { month = Some n.1 }
with_part (MonthName form case) n p = record p { month = Some n.1 }
with_part (Day padding) n p = record p { day = Some n.1 }
with_part (Ordinal padding) n p = record p { ordinal = Some n.1 }
with_part (WeekdayName form case) n p = record p { weekday = Some n.1 }
with_part (WeekdayNumber start count) n p = record p { weekday = Some n.1 }
with_part (WeekNumber Iso padding) n p = record p { iso_week = Some n.1 }
with_part (WeekNumber Sunday padding) n p = record p { sunday_week = Some n.1 }
with_part (WeekNumber Monday padding) n p = record p { monday_week = Some n.1 }
with_part (Hour padding) n p = record p { hour = Some n.1 }
with_part (Hour12 padding) n p = record p { hour_12 = Some n.1 }
with_part (Period case read) n p = record p { is_afternoon = Some n.0 }
with_part (Minute padding) n p = record p { minute = Some n.1 }
with_part (Second padding) n p = record p { second = Some n.1 }
with_part (Subsecond digits) n p = record p { nanosecond = Some n.1 }
with_part (OffsetHour sign padding) n p = record p { is_west = Some n.0; offset_hour = Some n.1 }
with_part (OffsetMinute padding) n p = record p { offset_minute = Some n.1 }
with_part (OffsetSecond padding) n p = record p { offset_second = Some n.1 }
with_part (UnixTimestamp Seconds sign) n p = record p { unix_second = Some (signed n.0 n.1) }
with_part (UnixTimestamp Milliseconds sign) n p = record p { unix_millisecond = Some (signed n.0 n.1) }
with_part (UnixTimestamp Microseconds sign) n p = record p { unix_microsecond = Some (signed n.0 n.1) }
with_part (UnixTimestamp Nanoseconds sign) n p = record p { unix_nanosecond = Some (signed n.0 n.1) }
with_part (Ignore count) n p = p
with_part End n p = p
with_part (IgnoreWeekday form case) n p = p
with_part IgnoreDigits n p = p
with_part (OffsetWord word case) n p = record p {
  is_west = Some n.0;
  offset_hour = Some (n.1 / 3_600);
  offset_minute = Some (n.1 / 60 % 60);
  offset_second = Some (n.1 % 60);
}
with_part (YearSince first) n p = record p { year = Some (signed n.0 n.1) }
with_part (YearSix Calendar) n p = record p { year = Some (signed n.0 n.1) }
with_part (YearSix IsoWeek) n p = record p { iso_year = Some (signed n.0 n.1) }
with_part (HourFraction digits) n p = record p {
  minute = Some (minute_of n.1);
  second = Some (second_of n.1);
  nanosecond = Some (nanosecond_of n.1);
}
with_part (MinuteFraction digits) n p = record p { second = Some (second_of n.1); nanosecond = Some (nanosecond_of n.1) }

-- the parts with the value of a component, if it contradicts none of them
abbrev pub part_given : Component → Parts → (Bool × ℕ) × List ℕ → Option (Parts × List ℕ)
part_given component p read = if agrees component read.0 p then Some (with_part component read.0 p, read.1) else None

-- a component, with the parts so far
abbrev pub part_at : Component → List ℕ → Parts → Option (Parts × List ℕ)
part_at component text p = component_at component text >>= λ read. part_given component p read

-- an item, with the parts so far; the head of a group reads nothing
unfoldable pub item_at : Item → List ℕ → Parts → Option (Parts × List ℕ)
item_at (Byte byte) text p = mark_at byte text >>= λ rest. Some (p, rest)
item_at (Part component) text p = part_at component text p
item_at (Optional size) text p = Some (p, text)
item_at (First size) text p = Some (p, text)
item_at (Or size) text p = Some (p, text)

-- the parts and the rest of the text, or the number of bytes left before an item that failed
abbrev pub Front : Type 0
Front = Result (Parts × List ℕ) ℕ

-- the result of the next items after an item, or the number of bytes left if it failed
abbrev pub going_on : List ℕ → (Parts × List ℕ → Front) → Option (Parts × List ℕ) → Front
going_on text next None = Err (length text)
going_on text next (Some read) = next read

-- the result of the next items after a group that was read, or after its fault
abbrev pub after_group : (ℕ → Front) → (Parts × List ℕ → Front) → Front → Front
after_group faulty next (Err left) = faulty left
after_group faulty next (Ok read) = next read

-- the reading of items, by the numbers of items to skip and to take, and by the fault of a group that another can replace
abbrev pub Reader : Type 0
Reader = ℕ → ℕ → Option ℕ → List ℕ → Parts → Front

-- the result of a group that may fail, and then of the others
abbrev pub try_group : Item → ℕ → Reader → ℕ → Option ℕ → List ℕ → Parts → Front
try_group item size others count fault text p =
    after_group (λ left. others size (count - size) (fault_after item fault left) text p)
    (λ read. others size (count - size) None read.1 read.0)
    (others 0 (min size count) None text p)

-- the result of an item, and then of the others
abbrev pub read_by : Item → Reader → ℕ → List ℕ → Parts → Option ℕ → Front
read_by item others count text p None = going_on text (λ read. others 0 count None read.1 read.0) (item_at item text p)
read_by item others count text p (Some size) =
    if is_other item then others size (count - size) None text p else try_group item size others count None text p

-- the same after a fault: only another group can follow
abbrev pub read_instead : Item → Reader → ℕ → ℕ → List ℕ → Parts → Option ℕ → Front
read_instead item others count left text p None = Err left
read_instead item others count left text p (Some size) =
    if is_other item then try_group item size others count (Some left) text p else Err left

-- the result of an item after a fault, or after none
abbrev pub read_item : Item → Reader → ℕ → Option ℕ → List ℕ → Parts → Front
read_item item others count None text p = read_by item others count text p (size_of item)
read_item item others count (Some left) text p = read_instead item others count left text p (size_of item)

-- the result at the end of the items, after a fault or after none
abbrev pub read_end : Option ℕ → List ℕ → Parts → Front
read_end None text p = Ok (p, text)
read_end (Some left) text p = Err left

-- the result of items at the front of a text
unfoldable pub read_from : List Item → ℕ → ℕ → Option ℕ → List ℕ → Parts → Front
read_from [] skip count fault text p = read_end fault text p
read_from (item ∷ items) (suc skip) count fault text p = read_from items skip count fault text p
read_from (item ∷ items) zero zero fault text p = read_end fault text p
read_from (item ∷ items) zero (suc count) fault text p = read_item item (λ s n f t q. read_from items s n f t q) count fault text p

-- the result of all items at the front of a text
abbrev pub front_of : List Item → List ℕ → Parts → Front
front_of items text p = read_from items 0 (length items) None text p

-- the parts at the end of a text, or the number of bytes left
abbrev pub parts_or_rest : Parts → List ℕ → Result Parts ℕ
parts_or_rest p [] = Ok p
parts_or_rest p (first ∷ text) = Err (length (first ∷ text))

-- the parts of a reading that reached the end of the text, or the number of bytes left
abbrev pub at_end : Front → Result Parts ℕ
at_end (Err left) = Err left
at_end (Ok read) = parts_or_rest read.0 read.1

-- the parts of a text that the items read to its end, or the number of bytes left
abbrev pub items_at : List Item → List ℕ → Parts → Result Parts ℕ
items_at items text p = at_end (front_of items text p)

-- no part is known
abbrev pub no_parts : Parts
no_parts = record {
  year = None;
  year_century = None;
  is_before_zero = None;
  year_last_two = None;
  iso_year = None;
  iso_year_century = None;
  is_iso_before_zero = None;
  iso_year_last_two = None;
  month = None;
  day = None;
  ordinal = None;
  weekday = None;
  iso_week = None;
  sunday_week = None;
  monday_week = None;
  hour = None;
  hour_12 = None;
  is_afternoon = None;
  minute = None;
  second = None;
  nanosecond = None;
  is_west = None;
  offset_hour = None;
  offset_minute = None;
  offset_second = None;
  unix_second = None;
  unix_millisecond = None;
  unix_microsecond = None;
  unix_nanosecond = None;
}

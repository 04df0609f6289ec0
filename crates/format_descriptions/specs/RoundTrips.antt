-- Clear descriptions, which read their own texts back, and the parts that these texts have.
use Rattle.std.specs.Prelude.{◌≡◌, ℕ, ◌/◌, ◌%◌, ◌==◌, ◌&&◌, ◌||◌, not, Bool, true, false, List, [], ◌∷◌, int_lt}
use Rattle.std.specs.Prelude.{nat_lt, ℤ, pos, ◌≤ℤ◌, unsigned_abs, IsTrue, IfSome, Ok}
use Rattle.std.specs.Char.{is_ascii_digit}
use Rattle.calendar_values.specs.Calendar.{year_of, month_of, day_of_month_of, ordinal_of}
use Rattle.calendar_values.specs.Clock.{IsClock, hour_of, minute_of, second_of, nanosecond_of, nanos_per_hour, nanos_per_minute}
use Rattle.calendar_values.specs.Offsets.{IsOffset}
use Rattle.calendar_values.specs.Weeks.{weekday_of, iso_year_of, iso_week_of, sunday_week_of, monday_week_of}
use Rattle.format_descriptions.specs.Groups.{written_items}
use Rattle.format_descriptions.specs.Modifiers.{is_mandatory, is_padded, is_extended, is_calendar, digit_count}
use Rattle.format_descriptions.specs.Written.{items_text, hour_12, year_by, week_by, unix_count}
use Rattle.format_descriptions.specs.Read.{items_at, with_part, no_parts}
use Rattle.format_descriptions.specs.declared.component.Component.{Component}
use Rattle.format_descriptions.specs.declared.component.Component.TheVariants.{Year, YearCentury, YearLastTwo, Month, MonthName, Day, Ordinal}
use Rattle.format_descriptions.specs.declared.component.Component.TheVariants.{WeekdayName, WeekdayNumber, WeekNumber, Hour, Hour12, Period, Minute}
use Rattle.format_descriptions.specs.declared.component.Component.TheVariants.{Second, Subsecond}
use Rattle.format_descriptions.specs.declared.component.Component.TheVariants.{OffsetHour, OffsetMinute, OffsetSecond, UnixTimestamp, Ignore, End}
use Rattle.format_descriptions.specs.declared.component.Component.TheVariants.{IgnoreWeekday, IgnoreDigits, OffsetWord, YearSince, YearSix}
use Rattle.format_descriptions.specs.declared.component.Component.TheVariants.{HourFraction, MinuteFraction}
use Rattle.format_descriptions.specs.declared.item.Item.{Item}
use Rattle.format_descriptions.specs.declared.item.Item.TheVariants.{Byte, Part, Optional, First, Or}
use Rattle.format_descriptions.specs.declared.modifiers.UnixPrecision.TheVariants.{Seconds, Milliseconds, Microseconds, Nanoseconds}
use Rattle.format_descriptions.specs.declared.parts.Parts.{Parts}

-- a component takes all digits that follow it
abbrev pub takes_digits : Component → Bool
takes_digits (Year base sign padding range) = not (is_padded padding) || (is_mandatory sign && is_extended range)
takes_digits (YearCentury base sign padding range) = not (is_padded padding) || (is_mandatory sign && is_extended range)
takes_digits (YearLastTwo base padding) = not (is_padded padding)
takes_digits (Month padding) = not (is_padded padding)
takes_digits (MonthName form case) = false
takes_digits (Day padding) = not (is_padded padding)
takes_digits (Ordinal padding) = not (is_padded padding)
takes_digits (WeekdayName form case) = false
takes_digits (WeekdayNumber start count) = false
takes_digits (WeekNumber rule padding) = not (is_padded padding)
takes_digits (Hour padding) = not (is_padded padding)
takes_digits (Hour12 padding) = not (is_padded padding)
takes_digits (Period case read) = false
takes_digits (Minute padding) = not (is_padded padding)
takes_digits (Second padding) = not (is_padded padding)
takes_digits (Subsecond digits) = digit_count digits == 0
takes_digits (OffsetHour sign padding) = not (is_padded padding)
takes_digits (OffsetMinute padding) = not (is_padded padding)
takes_digits (OffsetSecond padding) = not (is_padded padding)
takes_digits (UnixTimestamp precision sign) = true
takes_digits (Ignore count) = false
takes_digits End = false
takes_digits (IgnoreWeekday form case) = false
takes_digits IgnoreDigits = true
takes_digits (OffsetWord word case) = false
takes_digits (YearSince first) = false
takes_digits (YearSix base) = false
takes_digits (HourFraction digits) = digit_count digits == 0
takes_digits (MinuteFraction digits) = digit_count digits == 0

-- the text of a component has its whole value: a fraction is not cut
abbrev pub is_whole : Component → Bool
is_whole (Year base sign padding range) = is_calendar base
is_whole (YearCentury base sign padding range) = is_calendar base
is_whole (YearLastTwo base padding) = true
is_whole (Month padding) = true
is_whole (MonthName form case) = true
is_whole (Day padding) = true
is_whole (Ordinal padding) = true
is_whole (WeekdayName form case) = true
is_whole (WeekdayNumber start count) = true
is_whole (WeekNumber rule padding) = true
is_whole (Hour padding) = true
is_whole (Hour12 padding) = true
is_whole (Period case read) = true
is_whole (Minute padding) = true
is_whole (Second padding) = true
is_whole (Subsecond digits) = (digit_count digits == 0) || (digit_count digits == 9)
is_whole (OffsetHour sign padding) = true
is_whole (OffsetMinute padding) = true
is_whole (OffsetSecond padding) = true
is_whole (UnixTimestamp precision sign) = true
is_whole (Ignore count) = false
is_whole End = false
is_whole (IgnoreWeekday form case) = true
is_whole IgnoreDigits = false
is_whole (OffsetWord word case) = false
is_whole (YearSince first) = false
is_whole (YearSix base) = is_calendar base
is_whole (HourFraction digits) = false
is_whole (MinuteFraction digits) = false

-- the text of a component never begins with a digit
abbrev pub begins_apart : Component → Bool
begins_apart (Year base sign padding range) = is_mandatory sign
begins_apart (YearCentury base sign padding range) = is_mandatory sign
begins_apart (YearLastTwo base padding) = false
begins_apart (Month padding) = false
begins_apart (MonthName form case) = true
begins_apart (Day padding) = false
begins_apart (Ordinal padding) = false
begins_apart (WeekdayName form case) = true
begins_apart (WeekdayNumber start count) = false
begins_apart (WeekNumber rule padding) = false
begins_apart (Hour padding) = false
begins_apart (Hour12 padding) = false
begins_apart (Period case read) = true
begins_apart (Minute padding) = false
begins_apart (Second padding) = false
begins_apart (Subsecond digits) = false
begins_apart (OffsetHour sign padding) = is_mandatory sign
begins_apart (OffsetMinute padding) = false
begins_apart (OffsetSecond padding) = false
begins_apart (UnixTimestamp precision sign) = is_mandatory sign
begins_apart (Ignore count) = false
begins_apart End = false
begins_apart (IgnoreWeekday form case) = true
begins_apart IgnoreDigits = false
begins_apart (OffsetWord word case) = false
begins_apart (YearSince first) = false
begins_apart (YearSix base) = true
begins_apart (HourFraction digits) = false
begins_apart (MinuteFraction digits) = false

-- the text of the items does not begin with a digit
abbrev pub starts_apart : List Item → Bool
starts_apart [] = true
starts_apart (Byte byte ∷ items) = not (is_ascii_digit byte)
starts_apart (Part component ∷ items) = begins_apart component
starts_apart (Optional size ∷ items) = false
starts_apart (First size ∷ items) = false
starts_apart (Or size ∷ items) = false

-- no component of the items is cut, no digit follows one that takes all digits, and none is a group
abbrev pub are_clear : List Item → Bool
are_clear [] = true
are_clear (Byte byte ∷ items) = are_clear items
are_clear (Optional size ∷ items) = false
are_clear (First size ∷ items) = false
are_clear (Or size ∷ items) = false
are_clear (Part component ∷ items) = is_whole component && ((not (takes_digits component) || starts_apart items) && are_clear items)

-- the sign and the number of a component
abbrev pub number_of : Component → ℤ → ℕ → ℤ → Bool × ℕ
number_of (Year base sign padding range) day clock o = (int_lt (year_by base day) (pos 0), unsigned_abs (year_by base day))
number_of (YearCentury base sign padding range) day clock o = (int_lt (year_by base day) (pos 0), unsigned_abs (year_by base day) / 100)
number_of (YearLastTwo base padding) day clock o = (false, unsigned_abs (year_by base day) % 100)
number_of (Month padding) day clock o = (false, month_of day)
number_of (MonthName form case) day clock o = (false, month_of day)
number_of (Day padding) day clock o = (false, day_of_month_of day)
number_of (Ordinal padding) day clock o = (false, ordinal_of day)
number_of (WeekdayName form case) day clock o = (false, weekday_of day)
number_of (WeekdayNumber start count) day clock o = (false, weekday_of day)
number_of (WeekNumber rule padding) day clock o = (false, week_by rule day)
number_of (Hour padding) day clock o = (false, hour_of clock)
number_of (Hour12 padding) day clock o = (false, hour_12 (hour_of clock))
number_of (Period case read) day clock o = (not (nat_lt (hour_of clock) 12), 0)
number_of (Minute padding) day clock o = (false, minute_of clock)
number_of (Second padding) day clock o = (false, second_of clock)
number_of (Subsecond digits) day clock o = (false, nanosecond_of clock)
number_of (OffsetHour sign padding) day clock o = (int_lt o (pos 0), unsigned_abs o / 3_600)
number_of (OffsetMinute padding) day clock o = (false, unsigned_abs o / 60 % 60)
number_of (OffsetSecond padding) day clock o = (false, unsigned_abs o % 60)
number_of (UnixTimestamp precision sign) day clock o =
    (int_lt (unix_count precision day clock o) (pos 0), unsigned_abs (unix_count precision day clock o))
number_of (Ignore count) day clock o = (false, 0)
number_of End day clock o = (false, 0)
number_of (IgnoreWeekday form case) day clock o = (false, weekday_of day)
number_of IgnoreDigits day clock o = (false, 0)
number_of (OffsetWord word case) day clock o = (int_lt o (pos 0), unsigned_abs o)
number_of (YearSince first) day clock o = (int_lt (year_of day) (pos 0), unsigned_abs (year_of day))
number_of (YearSix base) day clock o = (int_lt (year_by base day) (pos 0), unsigned_abs (year_by base day))
number_of (HourFraction digits) day clock o = (false, clock % nanos_per_hour)
number_of (MinuteFraction digits) day clock o = (false, clock % nanos_per_minute)

-- the parts with those of the components of a description
abbrev pub flat_parts : List Item → ℤ → ℕ → ℤ → Parts → Parts
flat_parts [] day clock o p = p
flat_parts (Byte byte ∷ items) day clock o p = flat_parts items day clock o p
flat_parts (Optional size ∷ items) day clock o p = flat_parts items day clock o p
flat_parts (First size ∷ items) day clock o p = flat_parts items day clock o p
flat_parts (Or size ∷ items) day clock o p = flat_parts items day clock o p
flat_parts (Part component ∷ items) day clock o p = flat_parts items day clock o (with_part component (number_of component day clock o) p)

-- the parts that a description writes
abbrev pub parts_of : List Item → ℤ → ℕ → ℤ → Parts → Parts
parts_of items day clock o p = flat_parts (written_items items) day clock o p

-- the items that a description writes are clear
abbrev pub is_clear : List Item → Bool
is_clear items = are_clear (written_items items)

-- each part that is known is that of this day, this time of day and this offset
pub record AreParts (p : Parts) (day : ℤ) (clock : ℕ) (o : ℤ) : Type 0 where
  pub year : IfSome p.year (λ known. known ≡ year_of day)
  pub year_century : IfSome p.year_century (λ known. known ≡ unsigned_abs (year_of day) / 100)
  pub is_before_zero : IfSome p.is_before_zero (λ known. known ≡ int_lt (year_of day) (pos 0))
  pub year_last_two : IfSome p.year_last_two (λ known. known ≡ unsigned_abs (year_of day) % 100)
  pub iso_year : IfSome p.iso_year (λ known. known ≡ iso_year_of day)
  pub iso_year_century : IfSome p.iso_year_century (λ known. known ≡ unsigned_abs (iso_year_of day) / 100)
  pub is_iso_before_zero : IfSome p.is_iso_before_zero (λ known. known ≡ int_lt (iso_year_of day) (pos 0))
  pub iso_year_last_two : IfSome p.iso_year_last_two (λ known. known ≡ unsigned_abs (iso_year_of day) % 100)
  pub month : IfSome p.month (λ known. known ≡ month_of day)
  pub day_of_month : IfSome p.day (λ known. known ≡ day_of_month_of day)
  pub ordinal : IfSome p.ordinal (λ known. known ≡ ordinal_of day)
  pub weekday : IfSome p.weekday (λ known. known ≡ weekday_of day)
  pub iso_week : IfSome p.iso_week (λ known. known ≡ iso_week_of day)
  pub sunday_week : IfSome p.sunday_week (λ known. known ≡ sunday_week_of day)
  pub monday_week : IfSome p.monday_week (λ known. known ≡ monday_week_of day)
  pub hour : IfSome p.hour (λ known. known ≡ hour_of clock)
  pub hour_12 : IfSome p.hour_12 (λ known. known ≡ hour_12 (hour_of clock))
  pub is_afternoon : IfSome p.is_afternoon (λ known. known ≡ not (nat_lt (hour_of clock) 12))
  pub minute : IfSome p.minute (λ known. known ≡ minute_of clock)
  pub second : IfSome p.second (λ known. known ≡ second_of clock)
  pub nanosecond : IfSome p.nanosecond (λ known. known ≡ nanosecond_of clock)
  pub is_west : IfSome p.is_west (λ known. known ≡ int_lt o (pos 0))
  pub offset_hour : IfSome p.offset_hour (λ known. known ≡ unsigned_abs o / 3_600)
  pub offset_minute : IfSome p.offset_minute (λ known. known ≡ unsigned_abs o / 60 % 60)
  pub offset_second : IfSome p.offset_second (λ known. known ≡ unsigned_abs o % 60)
  pub unix_second : IfSome p.unix_second (λ known. known ≡ unix_count Seconds day clock o)
  pub unix_millisecond : IfSome p.unix_millisecond (λ known. known ≡ unix_count Milliseconds day clock o)
  pub unix_microsecond : IfSome p.unix_microsecond (λ known. known ≡ unix_count Microseconds day clock o)
  pub unix_nanosecond : IfSome p.unix_nanosecond (λ known. known ≡ unix_count Nanoseconds day clock o)

-- a day of a year of four digits, a time of day, an offset
pub record AreWritten (day : ℤ) (clock : ℕ) (o : ℤ) : Type 0 where
  pub year_first : pos 0 ≤ℤ year_of day
  pub year_last : year_of day ≤ℤ pos 9_999
  pub is_clock : IsClock clock
  pub is_offset : IsOffset o

-- the items read their own text to its end, and each part that they read is that of the written value
pub record ReadsBack (items : List Item) (day : ℤ) (clock : ℕ) (o : ℤ) : Type 0 where
  pub reading : items_at items (items_text items day clock o) no_parts ≡ Ok (parts_of items day clock o no_parts)
  pub parts : AreParts (parts_of items day clock o no_parts) day clock o

-- a clear description reads its own texts back
abbrev pub WrittenTextsReadBack : Type 0
WrittenTextsReadBack =
    (items : List Item) (day : ℤ) (clock : ℕ) (o : ℤ) → IsTrue (is_clear items) → AreWritten day clock o → ReadsBack items day clock o

-- The text that a description writes of a day, a time of day and an offset.
use Rattle.std.specs.Prelude.{ℕ, ◌≤◌, ◌/◌, ◌%◌, ◌==◌, ◌||◌, List, [], ◌∷◌, ◌++◌, take, length, codes, decimal, if◌then◌else◌, nat_lt, not, Bool, ◌&&◌}
use Rattle.std.specs.Prelude.{◌+◌, ◌-◌, int_lt, ℤ, pos, unsigned_abs, IsAscii}
use Rattle.std.specs.Int.{int_div_euclid}
use Rattle.calendar_values.specs.Calendar.{year_of, month_of, day_of_month_of, ordinal_of}
use Rattle.calendar_values.specs.Clock.{hour_of, minute_of, second_of, nanosecond_of, nanos_per_second, nanos_per_millisecond, nanos_per_microsecond}
use Rattle.calendar_values.specs.Clock.{nanos_per_hour, nanos_per_minute}
use Rattle.calendar_values.specs.Digits.{last_digits, fraction_digits, text_capacity}
use Rattle.calendar_values.specs.Texts.{year_digits}
use Rattle.calendar_values.specs.WallClock.{wall_clock, wall_day, wall_time}
use Rattle.calendar_values.specs.Weeks.{weekday_of, iso_year_of, iso_week_of, sunday_week_of, monday_week_of}
use Rattle.offset_times.specs.Local.{Local, instant_of, wall_at}
use Rattle.format_descriptions.specs.Groups.{written_items}
use Rattle.format_descriptions.specs.Names.{name_of_month, name_of_weekday}
use Rattle.format_descriptions.specs.declared.item.Item.{Item}
use Rattle.format_descriptions.specs.declared.item.Item.TheVariants.{Byte, Part, Optional, First, Or}
use Rattle.format_descriptions.specs.declared.component.Component.{Component}
use Rattle.format_descriptions.specs.declared.component.Component.TheVariants.{Year, YearCentury, YearLastTwo, Month, MonthName, Day, Ordinal}
use Rattle.format_descriptions.specs.declared.component.Component.TheVariants.{WeekdayName, WeekdayNumber, WeekNumber, Hour, Hour12, Period, Minute}
use Rattle.format_descriptions.specs.declared.component.Component.TheVariants.{Second, Subsecond}
use Rattle.format_descriptions.specs.declared.component.Component.TheVariants.{OffsetHour, OffsetMinute, OffsetSecond, UnixTimestamp, Ignore, End}
use Rattle.format_descriptions.specs.declared.component.Component.TheVariants.{IgnoreWeekday, IgnoreDigits, OffsetWord, YearSince, YearSix}
use Rattle.format_descriptions.specs.declared.component.Component.TheVariants.{HourFraction, MinuteFraction}
use Rattle.format_descriptions.specs.Modifiers.{is_mandatory, digit_count, first_weekday, first_number, utc_word}
use Rattle.format_descriptions.specs.declared.modifiers.Case.{Case}
use Rattle.format_descriptions.specs.declared.modifiers.Case.TheVariants.{Upper, Lower}
use Rattle.format_descriptions.specs.declared.modifiers.NameForm.{NameForm}
use Rattle.format_descriptions.specs.declared.modifiers.NameForm.TheVariants.{Long, Short}
use Rattle.format_descriptions.specs.declared.modifiers.Sign.{Sign}
use Rattle.format_descriptions.specs.declared.modifiers.Sign.TheVariants.{Mandatory}
use Rattle.format_descriptions.specs.declared.modifiers.SubsecondDigits.{SubsecondDigits}
use Rattle.format_descriptions.specs.declared.modifiers.Padding.{Padding}
use Rattle.format_descriptions.specs.declared.modifiers.Padding.TheVariants.{Zero, Space, Bare}
use Rattle.format_descriptions.specs.declared.modifiers.UnixPrecision.{UnixPrecision}
use Rattle.format_descriptions.specs.declared.modifiers.UnixPrecision.TheVariants.{Seconds, Milliseconds, Microseconds, Nanoseconds}
use Rattle.format_descriptions.specs.declared.modifiers.UtcWord.{UtcWord}
use Rattle.format_descriptions.specs.declared.modifiers.WeekRule.{WeekRule}
use Rattle.format_descriptions.specs.declared.modifiers.WeekRule.TheVariants.{Iso, Sunday, Monday}
use Rattle.format_descriptions.specs.declared.modifiers.WeekStart.{WeekStart}
use Rattle.format_descriptions.specs.declared.modifiers.WeekdayCount.{WeekdayCount}
use Rattle.format_descriptions.specs.declared.modifiers.YearBase.{YearBase}
use Rattle.format_descriptions.specs.declared.modifiers.YearBase.TheVariants.{Calendar, IsoWeek}

-- the text of a number below 100
unfoldable pub two_text : Padding → ℕ → List ℕ
two_text Zero n = last_digits 2 n
two_text Space n = if nat_lt n 10 then codes " " ++ decimal n else decimal n
two_text Bare n = decimal n

-- the text of a number below 1,000
unfoldable pub three_text : Padding → ℕ → List ℕ
three_text Zero n = last_digits 3 n
three_text Space n = if nat_lt n 10 then codes "  " ++ decimal n else (if nat_lt n 100 then codes " " ++ decimal n else decimal n)
three_text Bare n = decimal n

-- a name, or its first three letters
abbrev pub name_in_form : NameForm → List ℕ → List ℕ
name_in_form Long name = name
name_in_form Short name = take 3 name

-- the year of the calendar, or that of the ISO week
abbrev pub year_by : YearBase → ℤ → ℤ
year_by Calendar day = year_of day
year_by IsoWeek day = iso_year_of day

-- the text of a number with four digits, or with more if it has more
unfoldable pub four_text : Padding → ℕ → List ℕ
four_text Zero n = year_digits n
four_text Space n = if nat_lt n 1_000 then codes " " ++ three_text Space n else year_digits n
four_text Bare n = if nat_lt n 1_000 then decimal n else year_digits n

-- the sign of a year: `-` before one below 0, `+` before one above 9999, and before any other where the sign is mandatory
abbrev pub year_sign : Sign → ℤ → List ℕ
year_sign sign y = if int_lt y (pos 0) then codes "-" else (if is_mandatory sign || int_lt (pos 9_999) y then codes "+" else [])

-- the text of a year
unfoldable pub year_text : Sign → Padding → ℤ → List ℕ
year_text sign padding y = year_sign sign y ++ four_text padding (unsigned_abs y)

-- the text of a number with two digits, or with more if it has more
unfoldable pub century_digits : Padding → ℕ → List ℕ
century_digits padding n = if nat_lt n 100 then two_text padding n else decimal n

-- the sign of a year, and the year without its last two digits
unfoldable pub century_text : Sign → Padding → ℤ → List ℕ
century_text sign padding y = year_sign sign y ++ century_digits padding (unsigned_abs y / 100)

-- the sign of a year, and its six digits
unfoldable pub six_text : ℤ → List ℕ
six_text y = year_sign Mandatory y ++ last_digits 6 (unsigned_abs y)

-- the week of a day by each rule
abbrev pub week_by : WeekRule → ℤ → ℕ
week_by Iso day = iso_week_of day
week_by Sunday day = sunday_week_of day
week_by Monday day = monday_week_of day

-- the number of a day of the week from the first day of the week on
unfoldable pub weekday_number_by : WeekStart → WeekdayCount → ℕ → ℕ
weekday_number_by start count weekday = (weekday + 7 - first_weekday start) % 7 + first_number count

-- the count of a Unix timestamp for an instant, rounded down
abbrev pub unix_rounded : UnixPrecision → ℤ → ℤ
unix_rounded Seconds i = int_div_euclid i (pos nanos_per_second)
unix_rounded Milliseconds i = int_div_euclid i (pos nanos_per_millisecond)
unix_rounded Microseconds i = int_div_euclid i (pos nanos_per_microsecond)
unix_rounded Nanoseconds i = i

-- the same for a day, a time of day and an offset
unfoldable pub unix_count : UnixPrecision → ℤ → ℕ → ℤ → ℤ
unix_count precision day clock o = unix_rounded precision (instant_of (wall_at (wall_clock day clock) o))

-- the sign and the digits of a Unix timestamp
unfoldable pub unix_text : Sign → ℤ → List ℕ
unix_text sign n = (if int_lt n (pos 0) then codes "-" else (if is_mandatory sign then codes "+" else [])) ++ decimal (unsigned_abs n)

-- the hour on a clock of 12 hours
unfoldable pub hour_12 : ℕ → ℕ
hour_12 h = if h % 12 == 0 then 12 else h % 12

-- the word for the half of the day
unfoldable pub period_text : Case → ℕ → List ℕ
period_text Upper h = if nat_lt h 12 then codes "AM" else codes "PM"
period_text Lower h = if nat_lt h 12 then codes "am" else codes "pm"

-- the first of the nine digits of a fraction, or as many as it needs
unfoldable pub subsecond_text : SubsecondDigits → ℕ → List ℕ
subsecond_text digits n = if digit_count digits == 0 then fraction_digits 9 n else take (digit_count digits) (last_digits 9 n)

-- the sign and the hours of an offset
unfoldable pub offset_hour_text : Sign → Padding → ℤ → List ℕ
offset_hour_text sign padding o =
    (if int_lt o (pos 0) then codes "-" else (if is_mandatory sign then codes "+" else [])) ++ two_text padding (unsigned_abs o / 3_600)

-- a byte that no text has, since it is not ASCII: it marks a value that a component cannot write
abbrev pub no_text : List ℕ
no_text = 255 ∷ []

-- the word for UTC, for the offset of UTC alone
unfoldable pub offset_word_text : UtcWord → ℤ → List ℕ
offset_word_text word o = if unsigned_abs o == 0 then utc_word word else no_text

-- the year is one of the hundred years from this one on
abbrev pub is_year_since : ℕ → ℤ → Bool
is_year_since first y = not (int_lt y (pos first)) && int_lt y (pos (first + 100))

-- the last two digits of a year, for the hundred years from this one on alone
unfoldable pub year_since_text : ℕ → ℤ → List ℕ
year_since_text first y = if is_year_since first y then two_text Zero (unsigned_abs y % 100) else no_text

-- the text of a component for a day, a time of day and an offset
unfoldable pub component_text : Component → ℤ → ℕ → ℤ → List ℕ
component_text (Year base sign padding range) day clock o = year_text sign padding (year_by base day)
component_text (YearCentury base sign padding range) day clock o = century_text sign padding (year_by base day)
component_text (YearLastTwo base padding) day clock o = two_text padding (unsigned_abs (year_by base day) % 100)
component_text (Month padding) day clock o = two_text padding (month_of day)
component_text (MonthName form case) day clock o = name_in_form form (name_of_month (month_of day))
component_text (Day padding) day clock o = two_text padding (day_of_month_of day)
component_text (Ordinal padding) day clock o = three_text padding (ordinal_of day)
component_text (WeekdayName form case) day clock o = name_in_form form (name_of_weekday (weekday_of day))
component_text (WeekdayNumber start count) day clock o = decimal (weekday_number_by start count (weekday_of day))
component_text (WeekNumber rule padding) day clock o = two_text padding (week_by rule day)
component_text (Hour padding) day clock o = two_text padding (hour_of clock)
component_text (Hour12 padding) day clock o = two_text padding (hour_12 (hour_of clock))
component_text (Period case read) day clock o = period_text case (hour_of clock)
component_text (Minute padding) day clock o = two_text padding (minute_of clock)
component_text (Second padding) day clock o = two_text padding (second_of clock)
component_text (Subsecond digits) day clock o = subsecond_text digits (nanosecond_of clock)
component_text (OffsetHour sign padding) day clock o = offset_hour_text sign padding o
component_text (OffsetMinute padding) day clock o = two_text padding (unsigned_abs o / 60 % 60)
component_text (OffsetSecond padding) day clock o = two_text padding (unsigned_abs o % 60)
component_text (UnixTimestamp precision sign) day clock o = unix_text sign (unix_count precision day clock o)
component_text (Ignore count) day clock o = []
component_text End day clock o = []
component_text (IgnoreWeekday form case) day clock o = name_in_form form (name_of_weekday (weekday_of day))
component_text IgnoreDigits day clock o = []
component_text (OffsetWord word case) day clock o = offset_word_text word o
component_text (YearSince first) day clock o = year_since_text first (year_of day)
component_text (YearSix base) day clock o = six_text (year_by base day)
component_text (HourFraction digits) day clock o = subsecond_text digits (clock % nanos_per_hour / 3_600)
component_text (MinuteFraction digits) day clock o = subsecond_text digits (clock % nanos_per_minute / 60)

-- the text of an item; the head of a group writes nothing
unfoldable pub item_text : Item → ℤ → ℕ → ℤ → List ℕ
item_text (Byte byte) day clock o = byte ∷ []
item_text (Part component) day clock o = component_text component day clock o
item_text (Optional size) day clock o = []
item_text (First size) day clock o = []
item_text (Or size) day clock o = []

-- the texts of items, one after another
unfoldable pub flat_text : List Item → ℤ → ℕ → ℤ → List ℕ
flat_text [] day clock o = []
flat_text (item ∷ items) day clock o = item_text item day clock o ++ flat_text items day clock o

-- the text that a description writes
abbrev pub items_text : List Item → ℤ → ℕ → ℤ → List ℕ
items_text items day clock o = flat_text (written_items items) day clock o

-- the text that a description writes of a wall clock at an offset
abbrev pub described_text : List Item → Local → List ℕ
described_text items at = items_text items (wall_day at.wall) (wall_time at.wall) at.offset

-- the text is ASCII, and no longer than the capacity of a text
abbrev pub Fits : List ℕ → Type 0
Fits text = (length text ≤ text_capacity) × IsAscii text

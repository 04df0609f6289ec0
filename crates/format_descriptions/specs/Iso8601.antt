-- ISO 8601: the items that read its forms, and those that write a form of it.
use Rattle.std.specs.Prelude.{List, [], ◌∷◌, ◌++◌, ◌%◌, ◌==◌, ◌&&◌, ◌||◌, Bool, true, false, not, ℤ, pos, int_lt, unsigned_abs, Option, Some, None}
use Rattle.calendar_values.specs.Calendar.{year_of}
use Rattle.calendar_values.specs.WallClock.{wall_day}
use Rattle.calendar_values.specs.Weeks.{iso_year_of}
use Rattle.offset_times.specs.Local.{Local}
use Rattle.format_descriptions.specs.declared.item.Item.{Item}
use Rattle.format_descriptions.specs.declared.item.Item.TheVariants.{Byte, Part, Optional, First, Or}
use Rattle.format_descriptions.specs.declared.component.Component.TheVariants.{Year, Month, Day, Ordinal, WeekdayNumber, WeekNumber}
use Rattle.format_descriptions.specs.declared.component.Component.TheVariants.{Hour, Minute, Second, Subsecond, OffsetHour, OffsetMinute, OffsetWord}
use Rattle.format_descriptions.specs.declared.component.Component.TheVariants.{HourFraction, MinuteFraction, YearSix}
use Rattle.format_descriptions.specs.declared.iso8601_forms.Iso8601.{Iso8601}
use Rattle.format_descriptions.specs.declared.iso8601_forms.Iso8601Date.{Iso8601Date}
use Rattle.format_descriptions.specs.declared.iso8601_forms.Iso8601Date.TheVariants as date
use Rattle.format_descriptions.specs.declared.iso8601_forms.Iso8601Time.{Iso8601Time}
use Rattle.format_descriptions.specs.declared.iso8601_forms.Iso8601Time.TheVariants as time
use Rattle.format_descriptions.specs.declared.iso8601_forms.Iso8601Offset.{Iso8601Offset}
use Rattle.format_descriptions.specs.declared.iso8601_forms.Iso8601Offset.TheVariants as offset
use Rattle.format_descriptions.specs.declared.modifiers.Padding.TheVariants.{Zero}
use Rattle.format_descriptions.specs.declared.modifiers.ReadCase.TheVariants.{Same}
use Rattle.format_descriptions.specs.declared.modifiers.Sign.TheVariants.{Automatic, Mandatory}
use Rattle.format_descriptions.specs.declared.modifiers.SubsecondDigits.TheVariants.{OneOrMore}
use Rattle.format_descriptions.specs.declared.modifiers.WeekRule.TheVariants.{Iso}
use Rattle.format_descriptions.specs.declared.modifiers.WeekStart.TheVariants.{Monday}
use Rattle.format_descriptions.specs.declared.modifiers.WeekdayCount.TheVariants.{FromOne}
use Rattle.format_descriptions.specs.declared.modifiers.UtcWord.TheVariants.{Zulu}
use Rattle.format_descriptions.specs.declared.modifiers.YearBase.{YearBase}
use Rattle.format_descriptions.specs.declared.modifiers.YearBase.TheVariants.{Calendar, IsoWeek}
use Rattle.format_descriptions.specs.declared.modifiers.YearRange.TheVariants.{Standard, Extended}

-- a date by month and day, by the day of the year, or by its ISO week, each with its marks or without
abbrev pub iso8601_date_items : List Item
iso8601_date_items =
    First 5 ∷ Part (Year Calendar Automatic Zero Extended) ∷ Byte 45 ∷ Part (Month Zero) ∷ Byte 45 ∷ Part (Day Zero) ∷ Or 3 ∷
    Part (Year Calendar Automatic Zero Extended) ∷ Byte 45 ∷ Part (Ordinal Zero) ∷ Or 6 ∷ Part (Year IsoWeek Automatic Zero Extended) ∷ Byte 45 ∷
    Byte 87 ∷ Part (WeekNumber Iso Zero) ∷ Byte 45 ∷ Part (WeekdayNumber Monday FromOne) ∷ Or 3 ∷ Part (Year Calendar Automatic Zero Extended) ∷
    Part (Month Zero) ∷ Part (Day Zero) ∷ Or 2 ∷ Part (Year Calendar Automatic Zero Extended) ∷ Part (Ordinal Zero) ∷ Or 4 ∷
    Part (Year IsoWeek Automatic Zero Extended) ∷ Byte 87 ∷ Part (WeekNumber Iso Zero) ∷ Part (WeekdayNumber Monday FromOne) ∷ []

-- a time of day that ends with its hour, its minute or its second, and perhaps a fraction of that after a point or a comma
-- then perhaps an offset or `Z`; each with its marks or without
abbrev pub iso8601_time_items : List Item
iso8601_time_items =
    First 19 ∷ Part (Hour Zero) ∷ Byte 58 ∷ Part (Minute Zero) ∷ Optional 15 ∷ First 8 ∷ Byte 58 ∷ Part (Second Zero) ∷ Optional 5 ∷ First 1 ∷
    Byte 46 ∷ Or 1 ∷ Byte 44 ∷ Part (Subsecond OneOrMore) ∷ Or 5 ∷ First 1 ∷ Byte 46 ∷ Or 1 ∷ Byte 44 ∷ Part (MinuteFraction OneOrMore) ∷ Or 17 ∷
    Part (Hour Zero) ∷ Part (Minute Zero) ∷ Optional 14 ∷ First 7 ∷ Part (Second Zero) ∷ Optional 5 ∷ First 1 ∷ Byte 46 ∷ Or 1 ∷ Byte 44 ∷
    Part (Subsecond OneOrMore) ∷ Or 5 ∷ First 1 ∷ Byte 46 ∷ Or 1 ∷ Byte 44 ∷ Part (MinuteFraction OneOrMore) ∷ Or 7 ∷ Part (Hour Zero) ∷ Optional 5 ∷
    First 1 ∷ Byte 46 ∷ Or 1 ∷ Byte 44 ∷ Part (HourFraction OneOrMore) ∷ Optional 11 ∷ First 3 ∷ Part (OffsetHour Mandatory Zero) ∷ Byte 58 ∷
    Part (OffsetMinute Zero) ∷ Or 2 ∷ Part (OffsetHour Mandatory Zero) ∷ Part (OffsetMinute Zero) ∷ Or 1 ∷ Part (OffsetHour Mandatory Zero) ∷ Or 1 ∷
    Part (OffsetWord Zulu Same) ∷ []

-- a date, `T` and a time of day
abbrev pub iso8601_items : List Item
iso8601_items = iso8601_date_items ++ Byte 84 ∷ iso8601_time_items

-- the year, in four digits, or with its sign and six digits
abbrev pub year_form : Bool → YearBase → Item
year_form false base = Part (Year base Automatic Zero Standard)
year_form true base = Part (YearSix base)

-- a date, with marks or without
abbrev pub date_form : Bool → Bool → Iso8601Date → List Item
date_form six true date.Calendar = year_form six Calendar ∷ Byte 45 ∷ Part (Month Zero) ∷ Byte 45 ∷ Part (Day Zero) ∷ []
date_form six false date.Calendar = year_form six Calendar ∷ Part (Month Zero) ∷ Part (Day Zero) ∷ []
date_form six true date.Week =
    year_form six IsoWeek ∷ Byte 45 ∷ Byte 87 ∷ Part (WeekNumber Iso Zero) ∷ Byte 45 ∷ Part (WeekdayNumber Monday FromOne) ∷ []
date_form six false date.Week = year_form six IsoWeek ∷ Byte 87 ∷ Part (WeekNumber Iso Zero) ∷ Part (WeekdayNumber Monday FromOne) ∷ []
date_form six true date.Ordinal = year_form six Calendar ∷ Byte 45 ∷ Part (Ordinal Zero) ∷ []
date_form six false date.Ordinal = year_form six Calendar ∷ Part (Ordinal Zero) ∷ []

-- the date, or nothing
abbrev pub date_part : Bool → Bool → Option Iso8601Date → List Item
date_part six marks None = []
date_part six marks (Some form) = date_form six marks form

-- `T`, or nothing
abbrev pub mark_part : Bool → List Item
mark_part true = Byte 84 ∷ []
mark_part false = []

-- a time of day down to its last part, with marks or without
abbrev pub clock_form : Bool → Iso8601Time → List Item
clock_form marks (time.Hour digits) = Part (Hour Zero) ∷ []
clock_form true (time.Minute digits) = Part (Hour Zero) ∷ Byte 58 ∷ Part (Minute Zero) ∷ []
clock_form false (time.Minute digits) = Part (Hour Zero) ∷ Part (Minute Zero) ∷ []
clock_form true (time.Second digits) = Part (Hour Zero) ∷ Byte 58 ∷ Part (Minute Zero) ∷ Byte 58 ∷ Part (Second Zero) ∷ []
clock_form false (time.Second digits) = Part (Hour Zero) ∷ Part (Minute Zero) ∷ Part (Second Zero) ∷ []

-- a point and the fraction of the last part, or nothing
abbrev pub fraction_form : Iso8601Time → List Item
fraction_form (time.Hour (Some digits)) = Byte 46 ∷ Part (HourFraction digits) ∷ []
fraction_form (time.Minute (Some digits)) = Byte 46 ∷ Part (MinuteFraction digits) ∷ []
fraction_form (time.Second (Some digits)) = Byte 46 ∷ Part (Subsecond digits) ∷ []
fraction_form (time.Hour None) = []
fraction_form (time.Minute None) = []
fraction_form (time.Second None) = []

-- the time of day, or nothing
abbrev pub time_part : Bool → Bool → Option Iso8601Time → List Item
time_part mark marks None = []
time_part mark marks (Some form) = mark_part mark ++ clock_form marks form ++ fraction_form form

-- an offset down to its last part, with marks or without
abbrev pub offset_form : Bool → Iso8601Offset → List Item
offset_form marks offset.Hour = Part (OffsetHour Mandatory Zero) ∷ []
offset_form true offset.Minute = Part (OffsetHour Mandatory Zero) ∷ Byte 58 ∷ Part (OffsetMinute Zero) ∷ []
offset_form false offset.Minute = Part (OffsetHour Mandatory Zero) ∷ Part (OffsetMinute Zero) ∷ []

-- the offset or `Z`, or nothing
abbrev pub offset_part : Bool → Bool → Option Iso8601Offset → List Item
offset_part zulu marks None = []
offset_part true marks (Some form) = Part (OffsetWord Zulu Same) ∷ []
offset_part false marks (Some form) = offset_form marks form

-- a form has a time of day
abbrev pub has_time : Option Iso8601Time → Bool
has_time None = false
has_time (Some form) = true

-- the items of a form, for the offset 0 or another
unfoldable pub iso8601_form : Iso8601 → Bool → List Item
iso8601_form form is_utc =
    date_part form.has_six_digit_years form.has_separators form.date ++ time_part form.has_time_mark form.has_separators form.time
    ++ offset_part (is_utc && has_time form.time) form.has_separators form.offset

-- a year of at most four digits, without a sign
abbrev pub is_short_year : ℤ → Bool
is_short_year y = not (int_lt y (pos 0)) && int_lt y (pos 10_000)

-- the year of a form is short
abbrev pub has_short_year : Option Iso8601Date → ℤ → Bool
has_short_year None day = true
has_short_year (Some date.Calendar) day = is_short_year (year_of day)
has_short_year (Some date.Week) day = is_short_year (iso_year_of day)
has_short_year (Some date.Ordinal) day = is_short_year (year_of day)

-- a form cuts nothing of an offset
abbrev pub has_whole_offset : Option Iso8601Offset → ℤ → Bool
has_whole_offset None o = true
has_whole_offset (Some offset.Hour) o = unsigned_abs o % 3_600 == 0
has_whole_offset (Some offset.Minute) o = unsigned_abs o % 60 == 0

-- the date-time has a text of the form
abbrev pub has_iso8601_text : Iso8601 → Local → Bool
has_iso8601_text form at =
    (form.has_six_digit_years || has_short_year form.date (wall_day at.wall)) && has_whole_offset form.offset at.offset

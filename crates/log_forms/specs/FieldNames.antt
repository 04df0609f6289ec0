-- The names of parts.
use Rattle.std.specs.Prelude.{ℕ, List, codes}
use Rattle.format_descriptions.specs.declared.value_refusal.Field.{Field}
use Rattle.format_descriptions.specs.declared.value_refusal.Field.TheVariants.{Year, YearCentury, YearLastTwo, IsoYear, IsoYearCentury, IsoYearLastTwo}
use Rattle.format_descriptions.specs.declared.value_refusal.Field.TheVariants.{Month, Day, Ordinal, Weekday, IsoWeek, SundayWeek}
use Rattle.format_descriptions.specs.declared.value_refusal.Field.TheVariants.{MondayWeek, Hour, Hour12, Period, Minute, Second}
use Rattle.format_descriptions.specs.declared.value_refusal.Field.TheVariants.{Subsecond, OffsetHour, OffsetMinute, OffsetSecond, UnixSecond, UnixMillisecond}
use Rattle.format_descriptions.specs.declared.value_refusal.Field.TheVariants.{UnixMicrosecond, UnixNanosecond}

-- the name of a part
abbrev pub field_name : Field → List ℕ
field_name Year = codes "year"
field_name YearCentury = codes "century"
field_name YearLastTwo = codes "digits of the year"
field_name IsoYear = codes "year of the week"
field_name IsoYearCentury = codes "century of the week"
field_name IsoYearLastTwo = codes "digits of the year"
field_name Month = codes "month"
field_name Day = codes "day"
field_name Ordinal = codes "day of the year"
field_name Weekday = codes "day of the week"
field_name IsoWeek = codes "week"
field_name SundayWeek = codes "week by Sundays"
field_name MondayWeek = codes "week by Mondays"
field_name Hour = codes "hour"
field_name Hour12 = codes "hour of 12"
field_name Period = codes "half of the day"
field_name Minute = codes "minute"
field_name Second = codes "second"
field_name Subsecond = codes "fraction"
field_name OffsetHour = codes "offset hour"
field_name OffsetMinute = codes "offset minute"
field_name OffsetSecond = codes "offset second"
field_name UnixSecond = codes "Unix time"
field_name UnixMillisecond = codes "Unix time"
field_name UnixMicrosecond = codes "Unix time"
field_name UnixNanosecond = codes "Unix time"

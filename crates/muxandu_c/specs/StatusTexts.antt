-- The names and the texts of the statuses.
use Rattle.std.specs.Prelude.{ℕ, ◌==◌, ◌&&◌, Bool, nat_lt, List, Option, Some, None, codes, if◌then◌else◌}
use Rattle.std.specs.List.{list_all}
use Rattle.muxandu_c.specs.declared.refused.Refused.{Refused}
use Rattle.muxandu_c.specs.declared.refused.Refused.TheVariants as refused

-- each byte is one of ASCII that prints
abbrev pub is_plain : List ℕ → Bool
is_plain text = list_all (λ c. nat_lt 31 c && nat_lt c 127) text

-- the error of a status
abbrev pub refused_numbered : ℕ → Option Refused
refused_numbered number =
    if number == 1 then Some refused.Year
    else (if number == 2 then Some refused.Month
    else (if number == 3 then Some refused.Day
    else (if number == 4 then Some refused.DayOfMonth
    else (if number == 5 then Some refused.Ordinal
    else (if number == 6 then Some refused.OrdinalOfYear
    else (if number == 7 then Some refused.Week
    else (if number == 8 then Some refused.WeekOfYear
    else (if number == 9 then Some refused.Weekday
    else (if number == 10 then Some refused.Hour
    else (if number == 11 then Some refused.Minute
    else (if number == 12 then Some refused.Second
    else (if number == 13 then Some refused.Nanosecond
    else (if number == 14 then Some refused.OffsetSeconds
    else (if number == 15 then Some refused.Timestamp
    else (if number == 16 then Some refused.DayNumber
    else (if number == 17 then Some refused.Duration
    else (if number == 18 then Some refused.Unit
    else (if number == 19 then Some refused.Result
    else (if number == 20 then Some refused.Buffer
    else (if number == 21 then Some refused.Span
    else (if number == 22 then Some refused.Syntax
    else (if number == 23 then Some refused.OffsetHour
    else (if number == 24 then Some refused.OffsetMinute
    else (if number == 25 then Some refused.NoText
    else (if number == 26 then Some refused.Zone
    else (if number == 27 then Some refused.Gap
    else (if number == 28 then Some refused.Fold
    else None)))))))))))))))))))))))))))

-- the name of an error
abbrev pub refused_name : Refused → List ℕ
refused_name refused.Year = codes "YEAR"
refused_name refused.Month = codes "MONTH"
refused_name refused.Day = codes "DAY"
refused_name refused.DayOfMonth = codes "DAY_OF_MONTH"
refused_name refused.Ordinal = codes "ORDINAL"
refused_name refused.OrdinalOfYear = codes "ORDINAL_OF_YEAR"
refused_name refused.Week = codes "WEEK"
refused_name refused.WeekOfYear = codes "WEEK_OF_YEAR"
refused_name refused.Weekday = codes "WEEKDAY"
refused_name refused.Hour = codes "HOUR"
refused_name refused.Minute = codes "MINUTE"
refused_name refused.Second = codes "SECOND"
refused_name refused.Nanosecond = codes "NANOSECOND"
refused_name refused.OffsetSeconds = codes "OFFSET_SECONDS"
refused_name refused.Timestamp = codes "TIMESTAMP"
refused_name refused.DayNumber = codes "DAY_NUMBER"
refused_name refused.Duration = codes "DURATION"
refused_name refused.Unit = codes "UNIT"
refused_name refused.Result = codes "RESULT"
refused_name refused.Buffer = codes "BUFFER"
refused_name refused.Span = codes "SPAN"
refused_name refused.Syntax = codes "SYNTAX"
refused_name refused.OffsetHour = codes "OFFSET_HOUR"
refused_name refused.OffsetMinute = codes "OFFSET_MINUTE"
refused_name refused.NoText = codes "NO_TEXT"
refused_name refused.Zone = codes "ZONE"
refused_name refused.Gap = codes "GAP"
refused_name refused.Fold = codes "FOLD"

-- the text of an error
abbrev pub refused_words : Refused → List ℕ
refused_words refused.Year = codes "A year before -999999 or after 999999."
refused_words refused.Month = codes "A month that is not 1 to 12."
refused_words refused.Day = codes "A day that is not 1 to 31."
refused_words refused.DayOfMonth = codes "A day of 1 to 31 that its month does not have in its year."
refused_words refused.Ordinal = codes "A day of the year that is not 1 to 366."
refused_words refused.OrdinalOfYear = codes "Day 366 of a year that has 365."
refused_words refused.Week = codes "An ISO week that is not 1 to 53."
refused_words refused.WeekOfYear = codes "Week 53 of an ISO year that has 52."
refused_words refused.Weekday = codes "A number that is not a day of the week."
refused_words refused.Hour = codes "An hour that is not 0 to 23."
refused_words refused.Minute = codes "A minute that is not 0 to 59."
refused_words refused.Second = codes "A second that is not 0 to 59."
refused_words refused.Nanosecond = codes "A nanosecond that is not 0 to 999999999."
refused_words refused.OffsetSeconds = codes "An offset that is not -93599 to 93599 seconds, or whose part in seconds is not -59 to 59."
refused_words refused.Timestamp = codes "A Unix second, or a count of another unit from 1970-01-01, outside the range of timestamps."
refused_words refused.DayNumber = codes "A day number that is not -365961662 to 364522971, or a Julian day outside the range of dates."
refused_words refused.Duration = codes "A duration whose whole seconds do not fit in 64 bits."
refused_words refused.Unit = codes "A number that is not a unit, not a part of a date-time, or not a kind, a version or an item of a format description."
refused_words refused.Result = codes "A result that is outside the range, or that its type cannot hold."
refused_words refused.Buffer = codes "A buffer that is too short for what the call writes."
refused_words refused.Span = codes "A span that does not lie in the block of texts."
refused_words refused.Syntax = codes "A text that does not have the form that the call reads, such as a date-time of RFC 3339."
refused_words refused.OffsetHour = codes "Hours of an offset that are out of range: above 23 in a text of RFC 3339, not -25 to 25 elsewhere."
refused_words refused.OffsetMinute = codes "Minutes of an offset that are not -59 to 59."
refused_words refused.NoText = codes "A value that has no such text, as in RFC 3339 a year outside 0 to 9999, or an offset with seconds or beyond 23:59."
refused_words refused.Zone = codes "Numbers that are no time zone: a part is out of range, or a transition or the rule does not follow."
refused_words refused.Gap = codes "A wall clock that no instant has, since a time zone puts its clocks forward past it."
refused_words refused.Fold = codes "A wall clock that two instants have, since a time zone puts its clocks back over it."

-- the name and the text of an error, if there is one
abbrev pub name_of_numbered : Option Refused → List ℕ
name_of_numbered (Some it) = refused_name it
name_of_numbered None = codes "UNKNOWN"

abbrev pub words_of_numbered : Option Refused → List ℕ
words_of_numbered (Some it) = refused_words it
words_of_numbered None = codes "A number that is no status of this version."

-- the name of a status, also of a number that is none
abbrev pub status_name : ℕ → List ℕ
status_name number = if number == 0 then codes "OK" else name_of_numbered (refused_numbered number)

-- the text of a status
abbrev pub status_words : ℕ → List ℕ
status_words number = if number == 0 then codes "Nothing is refused." else words_of_numbered (refused_numbered number)

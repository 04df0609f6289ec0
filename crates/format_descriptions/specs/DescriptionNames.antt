-- The names of components in descriptions.
use Rattle.std.specs.Prelude.{ℕ, List, codes, if◌then◌else◌, Option, Some, None}
use Rattle.format_descriptions.specs.DescriptionWords.{is_word_at}
use Rattle.format_descriptions.specs.declared.description_names.Name.{Name}
use Rattle.format_descriptions.specs.declared.description_names.Name.TheVariants.{Year, Month, Day, Ordinal, Weekday, WeekNumber, Hour, Minute}
use Rattle.format_descriptions.specs.declared.description_names.Name.TheVariants.{Period, Second, Subsecond, OffsetHour, OffsetMinute, OffsetSecond}
use Rattle.format_descriptions.specs.declared.description_names.Name.TheVariants.{UnixTimestamp, Ignore, End}

-- the name of a component of a date
unfoldable pub date_name_at : List ℕ → Option Name
date_name_at text =
    if is_word_at (codes "year") text then Some Year
    else (if is_word_at (codes "month") text then Some Month
    else (if is_word_at (codes "day") text then Some Day
    else (if is_word_at (codes "ordinal") text then Some Ordinal
    else (if is_word_at (codes "weekday") text then Some Weekday
    else (if is_word_at (codes "week_number") text then Some WeekNumber
    else None)))))

-- the name of a component of a time of day
unfoldable pub time_name_at : List ℕ → Option Name
time_name_at text =
    if is_word_at (codes "hour") text then Some Hour
    else (if is_word_at (codes "minute") text then Some Minute
    else (if is_word_at (codes "period") text then Some Period
    else (if is_word_at (codes "second") text then Some Second
    else (if is_word_at (codes "subsecond") text then Some Subsecond
    else None))))

-- the name of a component of an offset, or of another one
unfoldable pub other_name_at : List ℕ → Option Name
other_name_at text =
    if is_word_at (codes "offset_hour") text then Some OffsetHour
    else (if is_word_at (codes "offset_minute") text then Some OffsetMinute
    else (if is_word_at (codes "offset_second") text then Some OffsetSecond
    else (if is_word_at (codes "unix_timestamp") text then Some UnixTimestamp
    else (if is_word_at (codes "ignore") text then Some Ignore
    else (if is_word_at (codes "end") text then Some End
    else None)))))

-- the first name that was found
abbrev pub or_name : Option Name → Option Name → Option Name
or_name (Some name) others = Some name
or_name None others = others

-- the name at the front of a text
unfoldable pub name_at : List ℕ → Option Name
name_at text = or_name (date_name_at text) (or_name (time_name_at text) (other_name_at text))

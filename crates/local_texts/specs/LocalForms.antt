-- Date-times and times of day without an offset, by the date-times of RFC 3339 that they are with `Z` at their end; and times of
-- day with an offset, by those that they are after a date.
use Rattle.std.specs.Prelude.{ℕ, List, ◌++◌, codes, ℤ, Result, Ok, Err}
use Rattle.std.specs.Result.{result_map_both}
use Rattle.calendar_values.specs.WallClock.{wall_time}
use Rattle.offset_times.specs.Local.{Local, wall_at}
use Rattle.rfc3339.specs.Form.{IsDateTime}
use Rattle.rfc3339.specs.Meaning.{meaning, value_of}
use Rattle.rfc3339.specs.Reading.{reading_of, reading_as}
use Rattle.rfc3339.specs.declared.parts.Parts.{Parts}
use Rattle.rfc3339.specs.declared.refusal.TextRefusal.{TextRefusal}
use Rattle.rfc3339.specs.declared.refusal.TextRefusal.TheVariants.{Syntax, OutOfRange}

-- a date-time without an offset as one in UTC
abbrev pub date_time_in_utc : List ℕ → List ℕ
date_time_in_utc text = text ++ codes "Z"

-- a time of day as one of 1970-01-01 in UTC
abbrev pub time_in_utc : List ℕ → List ℕ
time_in_utc text = codes "1970-01-01T" ++ text ++ codes "Z"

-- the text has the form of a date-time without an offset, and spells these numbers: with `Z` at its end it is a date-time
abbrev pub IsLocalDateTime : List ℕ → Parts → Type 0
IsLocalDateTime text p = IsDateTime (date_time_in_utc text) p

-- the text has the form of a time of day, and spells these numbers: with a date and `Z` it is a date-time
abbrev pub IsLocalTime : List ℕ → Parts → Type 0
IsLocalTime text p = IsDateTime (time_in_utc text) p

-- a time of day with an offset as one of 1970-01-01
abbrev pub time_on_date : List ℕ → List ℕ
time_on_date text = codes "1970-01-01T" ++ text

-- the text has the form of a time of day with an offset, and spells these numbers: after a date it is a date-time
abbrev pub IsFullTime : List ℕ → Parts → Type 0
IsFullTime text p = IsDateTime (time_on_date text) p

-- the time of day and the offset of a wall clock at an offset
abbrev pub time_and_offset : Local → ℕ × ℤ
time_and_offset at = (wall_time at.wall, at.offset)

-- the time of day and the offset of two readings, or the error of the first; one of syntax comes first
abbrev pub both_readings : Result ℕ TextRefusal → Result ℤ TextRefusal → Result (ℕ × ℤ) TextRefusal
both_readings time (Ok offset) = result_map_both (λ t. (t, offset)) (λ refusal. refusal) time
both_readings time (Err Syntax) = Err Syntax
both_readings (Ok t) (Err (OutOfRange component)) = Err (OutOfRange component)
both_readings (Err refusal) (Err (OutOfRange component)) = Err refusal

-- the wall clock of the numbers, its time of day, and the wall clock at an offset
abbrev pub wall_of_parts : Parts → ℤ
wall_of_parts p = (value_of p).wall

abbrev pub time_of_parts : Parts → ℕ
time_of_parts p = wall_time (wall_of_parts p)

abbrev pub value_at : ℤ → Parts → Local
value_at offset p = wall_at (wall_of_parts p) offset

-- the value, or the first number from the left that is out of range
abbrev pub meaning_as : {A : Type 0} → (Local → A) → Parts → Result A TextRefusal
meaning_as value p = result_map_both value (λ refusal. refusal) (meaning p)

-- the first reading, or the second if the first is a syntax error
abbrev pub or_else : Result Local TextRefusal → Result Local TextRefusal → Result Local TextRefusal
or_else (Ok at) second = Ok at
or_else (Err Syntax) second = second
or_else (Err (OutOfRange component)) second = Err (OutOfRange component)

-- the reading of a text with an offset, or of one without it at this offset
abbrev pub reading_at : ℤ → List ℕ → Result Local TextRefusal
reading_at offset text = or_else (reading_of text) (reading_as (λ at. wall_at at.wall offset) (date_time_in_utc text))

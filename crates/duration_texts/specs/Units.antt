-- The units of durations, their names, and their nanoseconds.
use Rattle.std.specs.Prelude.{ℕ, Bool, false, ◌||◌, List, [], ◌∷◌, codes, Option, Some, None, if◌then◌else◌}
use Rattle.std.specs.Str.{str_eq_ignore_ascii_case}
use Rattle.calendar_values.specs.Clock.{nanos_per_microsecond, nanos_per_millisecond, nanos_per_second, nanos_per_minute, nanos_per_hour, nanos_per_day}

-- the units below a second: the names of each, and its nanoseconds; 194 and 181 are the two bytes of the micro sign
abbrev pub parts_of_second : List (List (List ℕ) × ℕ)
parts_of_second =
    (codes "ms" ∷ codes "millisecond" ∷ codes "milliseconds" ∷ [], nanos_per_millisecond)
    ∷ (codes "us" ∷ (194 ∷ 181 ∷ 115 ∷ []) ∷ codes "microsecond" ∷ codes "microseconds" ∷ [], nanos_per_microsecond)
    ∷ (codes "ns" ∷ codes "nanosecond" ∷ codes "nanoseconds" ∷ [], 1)
    ∷ []

-- all units
abbrev pub units : List (List (List ℕ) × ℕ)
units =
    (codes "d" ∷ codes "day" ∷ codes "days" ∷ [], nanos_per_day)
    ∷ (codes "h" ∷ codes "hour" ∷ codes "hours" ∷ [], nanos_per_hour)
    ∷ (codes "m" ∷ codes "minute" ∷ codes "minutes" ∷ [], nanos_per_minute)
    ∷ (codes "s" ∷ codes "second" ∷ codes "seconds" ∷ [], nanos_per_second)
    ∷ parts_of_second

-- the words of lengths that are not fixed
abbrev pub calendar_words : List (List ℕ)
calendar_words =
    codes "month" ∷ codes "months" ∷ codes "mon" ∷ codes "mons" ∷ codes "quarter" ∷ codes "quarters" ∷ codes "year" ∷ codes "years" ∷ []

-- whether a word is one of some names, in letters of any case
abbrev pub is_any : List ℕ → List (List ℕ) → Bool
is_any word [] = false
is_any word (name ∷ names) = str_eq_ignore_ascii_case word name || is_any word names

-- the nanoseconds of the first of some units that has this name
abbrev pub unit_among : List (List (List ℕ) × ℕ) → List ℕ → Option ℕ
unit_among [] word = None
unit_among (unit ∷ others) word = if is_any word unit.0 then Some unit.1 else unit_among others word

-- the nanoseconds of the unit of this name
unfoldable pub unit_of : List ℕ → Option ℕ
unit_of word = unit_among units word

-- whether the word names a length that is not fixed
unfoldable pub is_calendar_word : List ℕ → Bool
is_calendar_word word = is_any word calendar_words

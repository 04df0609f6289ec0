-- The years that the values of `--year` give: a year for each file that no value names, or `FILE=` and the year of a file.
use Rattle.std.specs.Prelude.{ℕ, ◌+◌, ◌==◌, ◌||◌, Bool, false, not, List, [], ◌∷◌, codes, drop, take, if◌then◌else◌, ℤ, int_lt}
use Rattle.std.specs.Prelude.{Option, Some, None, is_none, is_some, Result, Ok, Err}
use Rattle.std.specs.Str.{bytes_eq}
use Rattle.stamps.specs.Readers.{line_stamp}
use Rattle.stamps.specs.Reading.{year_of}
use Rattle.stamps.specs.declared.readers.LineRefusal.{LineRefusal}
use Rattle.stamps.specs.declared.readers.LineStamp.{LineStamp}
use Rattle.stamps.specs.declared.readers.Reader.{Reader}

-- the place of the last `=`, if there is one behind the first byte, or at it
abbrev pub sign_behind : Option ℕ → ℕ → Option ℕ
sign_behind (Some place) byte = Some (place + 1)
sign_behind None byte = if byte == 61 then Some 0 else None

unfoldable pub last_sign : List ℕ → Option ℕ
last_sign [] = None
last_sign (byte ∷ bytes) = sign_behind (last_sign bytes) byte

abbrev pub name_before : List ℕ → Option ℕ → Option (List ℕ)
name_before value (Some place) = Some (take place value)
name_before value None = None

-- the name of the file: what is before the last `=`, so that a name may have that byte too
abbrev pub name_in : List ℕ → Option (List ℕ)
name_in value = name_before value (last_sign value)

abbrev pub year_after : List ℕ → Option ℕ → List ℕ
year_after value (Some place) = drop (place + 1) value
year_after value None = value

-- the year: what follows the last `=`, or all of the value
abbrev pub year_in : List ℕ → List ℕ
year_in value = year_after value (last_sign value)

abbrev pub is_this : List ℕ → Option (List ℕ) → Bool
is_this name (Some own) = bytes_eq own name
is_this name None = false

-- whether a value names a file
abbrev pub names : List ℕ → List ℕ → Bool
names name value = is_this name (name_in value)

abbrev pub names_as : Option (List ℕ) → List ℕ → Bool
names_as (Some name) second = names name second
names_as None second = is_none (last_sign second)

-- whether two values name one file, or both none
abbrev pub names_same : List ℕ → List ℕ → Bool
names_same first second = names_as (name_in first) second

-- the year of the first value that names a file
unfoldable pub named : List ℕ → List (List ℕ) → Option (List ℕ)
named name [] = None
named name (value ∷ values) = if names name value then Some (year_in value) else named name values

abbrev pub unnamed_or : Option ℕ → List ℕ → Option (List ℕ) → Option (List ℕ)
unnamed_or None value others = Some value
unnamed_or (Some place) value others = others

-- the year of the first value that names no file
unfoldable pub first_unnamed : List (List ℕ) → Option (List ℕ)
first_unnamed [] = None
first_unnamed (value ∷ values) = unnamed_or (last_sign value) value (first_unnamed values)

abbrev pub year_or : Option (List ℕ) → Option (List ℕ) → Option (List ℕ)
year_or (Some year) other = Some year
year_or None other = other

-- the year of a file: the one of its name, or else the one without a name
abbrev pub year_for : List ℕ → List (List ℕ) → Option (List ℕ)
year_for name values = year_or (named name values) (first_unnamed values)

-- whether a text is a year, or the word for the time of the last change
abbrev pub is_year : List ℕ → Bool
is_year text = bytes_eq text (codes "mtime") || is_some (year_of text)

abbrev pub stands_until : ℤ → Result LineStamp LineRefusal → Bool
stands_until bound (Ok stamp) = not (int_lt bound stamp.instant)
stands_until bound (Err refusal) = false

-- whether a line has a stamp at or before an instant, with no stamp before it
abbrev pub is_until : Reader → Bool → List ℕ → ℤ → Bool
is_until reader is_first line bound = stands_until bound (line_stamp reader None is_first line)

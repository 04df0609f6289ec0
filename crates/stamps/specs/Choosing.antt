-- The reader that the first lines of a log choose.
use Rattle.std.specs.Prelude.{ℕ, ◌&&◌, Bool, false, List, [], ◌∷◌, ℤ, Option, Some, None, is_some, if◌then◌else◌, Result, Ok, Err}
use Rattle.std.specs.Result.{is_ok}
use Rattle.log_forms.specs.Choices.{choice_of, reader_form, reader_key, reader_place, some_year}
use Rattle.log_forms.specs.Forms.{form_named}
use Rattle.log_forms.specs.Stamps.{stamp_at}
use Rattle.log_forms.specs.declared.names.FormName.{FormName}
use Rattle.log_forms.specs.declared.names.FormName.TheVariants.{Rfc3339}
use Rattle.log_forms.specs.declared.places.Place.{Place}
use Rattle.log_forms.specs.declared.stamps.Stamp.{Stamp}
use Rattle.log_forms.specs.declared.stamps.StampRefusal.{StampRefusal}
use Rattle.stamps.specs.Reading.{is_front, offset_asked, place_text, plain_reader, whole_reader, year_asked}
use Rattle.stamps.specs.declared.readers.Reader.{Reader}
use Rattle.stamps.specs.declared.reading.ReadingMisuse.{ReadingMisuse}

-- the stamp that a reader reads in a line
abbrev pub stamp_by : ℕ → List ℕ → Result Stamp StampRefusal
stamp_by number line = stamp_at (form_named (reader_form number)) (reader_place number) (reader_key number) some_year line

-- whether it reads one
abbrev pub reads : ℕ → List ℕ → Bool
reads number line = is_ok (stamp_by number line)

-- the reader, if it reads a stamp in each of two lines
abbrev pub if_both_read : Option ℕ → List ℕ → List ℕ → Option ℕ
if_both_read (Some number) first second = if reads number first && reads number second then Some number else None
if_both_read None first second = None

-- the reader that two lines choose, if it reads a stamp in both
abbrev pub chosen_by_two : List ℕ → List ℕ → Option ℕ
chosen_by_two first second = if_both_read (choice_of (first ∷ second ∷ [])) first second

-- whether the reader that two lines choose reads a stamp in both
abbrev pub both_read : List ℕ → List ℕ → Bool
both_read first second = is_some (chosen_by_two first second)

-- whether a form at a place is RFC 3339 at the front
abbrev pub is_plain : FormName → Place → Bool
is_plain Rfc3339 place = is_front place
is_plain _ place = false

-- the reader of a form of a name: that of RFC 3339 is the plain one at the front
abbrev pub named_reader : FormName → Place → List ℕ → Option ℤ → Option ℤ → Result Reader ReadingMisuse
named_reader Rfc3339 at text offset year = plain_reader at text offset year
named_reader name at text offset year = whole_reader (form_named name) at text offset year

-- the reader of a form of a number at a place
abbrev pub chosen_at : ℕ → Result (Place × List ℕ) ReadingMisuse → Option ℤ → Option ℤ → Result Reader ReadingMisuse
chosen_at number (Ok found) offset year = named_reader (reader_form number) found.0 found.1 offset year
chosen_at number (Err misuse) offset year = Err misuse

-- the reader of the form and the place of this number, with an offset and a year
abbrev pub chosen_with : ℕ → Option ℤ → Option ℤ → Result Reader ReadingMisuse
chosen_with number offset year = chosen_at number (place_text (reader_place number) (reader_key number)) offset year

-- the same with a year and an offset that words give, or the misuse of one of them
abbrev pub chosen_at_year : ℕ → Option ℤ → Result (Option ℤ) ReadingMisuse → Result Reader ReadingMisuse
chosen_at_year number offset (Ok year) = chosen_with number offset year
chosen_at_year number offset (Err misuse) = Err misuse

abbrev pub chosen_at_offset : ℕ → Result (Option ℤ) ReadingMisuse → Option (List ℕ) → Result Reader ReadingMisuse
chosen_at_offset number (Ok offset) year = chosen_at_year number offset (year_asked year)
chosen_at_offset number (Err misuse) year = Err misuse

-- the reader of the form and the place of this number
abbrev pub chosen_reader : ℕ → Option (List ℕ) → Option (List ℕ) → Result Reader ReadingMisuse
chosen_reader number offset year = chosen_at_offset number (offset_asked offset) year

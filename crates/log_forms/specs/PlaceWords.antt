-- Words for places.
use Rattle.std.specs.Prelude.{ℕ, zero, suc, ◌+◌, ◌-◌, ◌*◌, nat_lt, List, [], ◌∷◌, codes, length, if◌then◌else◌, Option, Some, None}
use Rattle.std.specs.Char.{is_ascii_digit}
use Rattle.std.specs.Str.{bytes_eq}
use Rattle.log_forms.specs.Marks.{bytes_at}
use Rattle.log_forms.specs.declared.places.Place.{Place}
use Rattle.log_forms.specs.declared.places.Place.TheVariants.{Front, Field, After, Json, Access, Coloured}

-- the number of decimal digits after those of another, up to 999
unfoldable pub number_in : ℕ → List ℕ → Option ℕ
number_in number [] = Some number
number_in number (first ∷ text) =
    if is_ascii_digit first
    then (if nat_lt 999 (number * 10 + (first - 48)) then None else number_in (number * 10 + (first - 48)) text)
    else None

-- the place of a field with this number, if that is one
abbrev pub field_numbered : ℕ → Option ℕ → Option (Place × ℕ)
field_numbered count None = None
field_numbered count (Some zero) = None
field_numbered count (Some (suc number)) = Some (Field (suc number), count)

-- a place with a text that is not empty
abbrev pub place_with : Place → ℕ → List ℕ → Option (Place × ℕ)
place_with place count [] = None
place_with place count (first ∷ text) = Some (place, count)

-- the place of the word `json:NAME`
abbrev pub json_if : Option (List ℕ) → Option (Place × ℕ)
json_if (Some name) = place_with Json 5 name
json_if None = None

-- the place of the word `after:TEXT`, or another one
abbrev pub after_if : List ℕ → Option (List ℕ) → Option (Place × ℕ)
after_if word (Some text) = place_with After 6 text
after_if word None = json_if (bytes_at (codes "json:") word)

-- the place of the word `field:N`, or another one
abbrev pub field_if : List ℕ → Option (List ℕ) → Option (Place × ℕ)
field_if word (Some digits) = field_numbered (length word) (number_in 0 digits)
field_if word None = after_if word (bytes_at (codes "after:") word)

-- the place of a word, and the number of its bytes before the text or the name
unfoldable pub place_of : List ℕ → Option (Place × ℕ)
place_of word =
    if bytes_eq word (codes "front") then Some (Front, length word)
    else (if bytes_eq word (codes "access") then Some (Access, length word)
    else (if bytes_eq word (codes "coloured") then Some (Coloured, length word) else field_if word (bytes_at (codes "field:") word)))

-- Where in a line a stamp begins.
use Rattle.std.specs.Prelude.{ℕ, ◌-◌, ◌==◌, ◌&&◌, ◌||◌, Bool, true, false, List, [], ◌∷◌, if◌then◌else◌, Option, Some, None}
use Rattle.std.specs.Char.{is_ascii_digit}
use Rattle.rfc3339.specs.Reading.{◌>>=◌, mark_at}
use Rattle.log_forms.specs.Json.{member_of}
use Rattle.log_forms.specs.Marks.{bytes_at, first_of, is_blank}
use Rattle.log_forms.specs.declared.places.Place.{Place}
use Rattle.log_forms.specs.declared.places.Place.TheVariants.{Front, Field, After, Json, Access, Coloured}

-- the line from the field with this number on, by whether a blank or the front of the line is before it
unfoldable pub field_at : Bool → ℕ → List ℕ → Option (List ℕ)
field_at is_behind_blank number [] = None
field_at is_behind_blank number (byte ∷ line) =
    if is_blank byte then field_at true number line
    else (if is_behind_blank then (if number == 1 then Some (byte ∷ line) else field_at false (number - 1) line)
    else field_at false number line)

-- the rest after the first place of a text
unfoldable pub behind_text : List ℕ → List ℕ → Option (List ℕ)
behind_text text [] = None
behind_text text (byte ∷ line) = first_of (bytes_at text (byte ∷ line)) (behind_text text line)

-- the rest after the last bracket behind a space, before the first quote, by whether a space is before the text
unfoldable pub last_bracket : Bool → List ℕ → Option (List ℕ)
last_bracket is_behind_space [] = None
last_bracket is_behind_space (byte ∷ text) =
    if byte == 34 then None
    else first_of (last_bracket (byte == 32) text) (if is_behind_space && (byte == 91) then Some text else None)

-- the rest after the numbers of a colour, up to `m`
unfoldable pub colour_end : List ℕ → Option (List ℕ)
colour_end [] = None
colour_end (byte ∷ text) =
    if byte == 109 then Some text else (if is_ascii_digit byte || (byte == 59) then colour_end text else None)

-- the rest after a colour: `ESC`, `[` and its numbers
abbrev pub past_colour : List ℕ → Option (List ℕ)
past_colour text = do
  bracket ← mark_at 27 text
  numbers ← mark_at 91 bracket
  colour_end numbers

-- the rest after one or two colours
abbrev pub past_colours : List ℕ → Option (List ℕ)
past_colours text = past_colour text >>= λ rest. first_of (past_colour rest) (Some rest)

-- the line from a place on: the text is the one of `After`, and the name of `Json`
unfoldable pub text_at : Place → List ℕ → List ℕ → Option (List ℕ)
text_at Front text line = Some line
text_at (Field number) text line = field_at true number line
text_at After text line = behind_text text line
text_at Json name line = member_of name line
text_at Access text line = last_bracket false line
text_at Coloured text line = past_colours line

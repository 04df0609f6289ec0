-- The members of an object of JSON in a line.
use Rattle.std.specs.Prelude.{ℕ, zero, suc, ◌+◌, ◌-◌, ◌==◌, ◌&&◌, ◌||◌, Bool, true, false, List, [], ◌∷◌, drop, take, if◌then◌else◌, Option, Some, None}
use Rattle.std.specs.Prelude.{option_map}
use Rattle.rfc3339.specs.Reading.{◌>>=◌, mark_at}
use Rattle.log_forms.specs.Marks.{bytes_at, first_of}
use Rattle.log_forms.specs.declared.json.JsonState.{JsonState}
use Rattle.log_forms.specs.declared.json.JsonState.TheVariants.{Outside, Inside, Escaped}

-- white space: a space, a tab, a line feed or a carriage return
abbrev pub is_white : ℕ → Bool
is_white byte = (byte == 32) || ((byte == 9) || ((byte == 10) || (byte == 13)))

-- the rest after the white space at the front
unfoldable pub past_white : List ℕ → List ℕ
past_white [] = []
past_white (byte ∷ text) = if is_white byte then past_white text else byte ∷ text

-- the state after a byte in a text: a backslash escapes the next one, and a quote ends the text
abbrev pub state_inside : ℕ → JsonState
state_inside byte = if byte == 92 then Escaped else (if byte == 34 then Outside else Inside)

-- the number of objects and arrays that are open after a byte outside of texts
abbrev pub depth_after : ℕ → ℕ → ℕ
depth_after byte depth =
    if (byte == 123) || (byte == 91) then depth + 1 else (if (byte == 125) || (byte == 93) then depth - 1 else depth)

-- a value without the quote before it
abbrev pub without_quote : List ℕ → Option (List ℕ) → List ℕ
without_quote text (Some rest) = rest
without_quote text None = text

abbrev pub value_text : List ℕ → List ℕ
value_text text = without_quote text (mark_at 34 text)

-- the value of a member of this name: a quote, the name, a quote, a colon, with white space around that
abbrev pub named_value : List ℕ → List ℕ → Option (List ℕ)
named_value name text = do
  first ← mark_at 34 text
  last ← bytes_at name first
  blanks ← mark_at 34 last
  value ← mark_at 58 (past_white blanks)
  Some (value_text (past_white value))

-- the same, in the outermost object
unfoldable pub member_at : List ℕ → ℕ → List ℕ → Option (List ℕ)
member_at name depth text = if depth == 1 then named_value name text else None

-- whether an object that begins a text has ended
abbrev pub has_ended : Bool → ℕ → Bool
has_ended is_inner depth = is_inner && (depth == 0)

-- the value of the first member of a name in the outermost object, or in the object that begins a text
unfoldable pub value_of : Bool → List ℕ → JsonState → ℕ → List ℕ → Option (List ℕ)
value_of is_inner name state depth [] = None
value_of is_inner name Escaped depth (byte ∷ line) = value_of is_inner name Inside depth line
value_of is_inner name Inside depth (byte ∷ line) = value_of is_inner name (state_inside byte) depth line
value_of is_inner name Outside depth (byte ∷ line) =
    if byte == 34 then first_of (member_at name depth (byte ∷ line)) (value_of is_inner name Inside depth line)
    else (if has_ended is_inner (depth_after byte depth) then None else value_of is_inner name Outside (depth_after byte depth) line)

-- the number of bytes before the first point of a path
unfoldable pub before_point : List ℕ → Option ℕ
before_point [] = None
before_point (byte ∷ path) = if byte == 46 then Some 0 else option_map (λ count. count + 1) (before_point path)

-- the value at a path of names, through so many members at most
unfoldable pub path_of : ℕ → Bool → List ℕ → List ℕ → Option (List ℕ)
path_of zero is_inner path text = value_of is_inner path Outside 0 text
path_of (suc levels) is_inner path text =
    first_of (value_of is_inner path Outside 0 text) (before_point path >>=
    λ count. value_of is_inner (take count path) Outside 0 text >>= λ object. path_of levels true (drop (count + 1) path) object)

-- the value of the member of a name, or at a path of names that points separate
abbrev pub member_of : List ℕ → List ℕ → Option (List ℕ)
member_of name line = path_of 7 false name line

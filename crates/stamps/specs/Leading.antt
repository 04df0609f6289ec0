-- The first lines that choose a form, and what they say of an input.
use Rattle.std.specs.Prelude.{◌≡◌, ℕ, ◌<◌, ◌≤◌, ◌==◌, ◌&&◌, Bool, true, false, not, List, [], ◌∷◌, ◌++◌, ◌||◌, All, drop, filter, length, map, nat_le, take}
use Rattle.std.specs.Prelude.{if◌then◌else◌, Option, Some, None}
use Rattle.std.specs.Prelude.{Result, Ok, Err}
use Rattle.std.specs.Char.{is_ascii_digit}
use Rattle.std.specs.List.{between, list_any}
use Rattle.line_devices.specs.LineParts.{ended_from, rest_from}
use Rattle.line_devices.specs.Lines.{unless_empty}
use Rattle.log_forms.specs.Choices.{choice_of, is_read_by_any}
use Rattle.stamps.specs.Choosing.{both_read}
use Rattle.stamps.specs.Readers.{line_stamp}
use Rattle.stamps.specs.declared.leading.Leading.{Leading}
use Rattle.stamps.specs.declared.leading.Look.{Look}
use Rattle.stamps.specs.declared.leading.Look.TheVariants.{Bare, Chosen, Readable}
use Rattle.stamps.specs.declared.readers.LineRefusal.{LineRefusal}
use Rattle.stamps.specs.declared.readers.LineRefusal.TheVariants.{Absent, OutOfRange, Part}
use Rattle.stamps.specs.declared.readers.LineStamp.{LineStamp}
use Rattle.stamps.specs.declared.readers.Reader.{Reader}

-- ---- a line

-- whether a line has a digit, as each stamp has
abbrev pub has_digit : List ℕ → Bool
has_digit line = list_any is_ascii_digit line

-- whether a line may choose a form: it has a digit, and a reader reads it
unfoldable pub may_choose : List ℕ → Bool
may_choose line = has_digit line && is_read_by_any line

-- whether there is neither a stamp nor one that is refused
abbrev pub is_absent : Result LineStamp LineRefusal → Bool
is_absent (Ok stamp) = false
is_absent (Err Absent) = true
is_absent (Err (OutOfRange component)) = false
is_absent (Err (Part refusal)) = false

-- whether a line has neither a stamp that the reader reads nor one that it refuses
unfoldable pub is_bare : Reader → List ℕ → Bool
is_bare reader line = is_absent (line_stamp reader None false line)

-- ---- lines

-- whether lines choose a form, whatever follows: one reader reads both of two, or they are sixteen
abbrev pub suffice : List (List ℕ) → Bool
suffice [] = false
suffice (first ∷ []) = false
suffice (first ∷ second ∷ []) = both_read first second
suffice (first ∷ second ∷ third ∷ lines) = length (first ∷ second ∷ third ∷ lines) == 16

-- the lines that choose a form: none if a word names it
abbrev pub choosing : Bool → List (List ℕ) → List (List ℕ)
choosing true lines = filter may_choose lines
choosing false lines = []

-- whether the reader reads or refuses a line that does not choose
abbrev pub is_other : Bool → Reader → List ℕ → Bool
is_other true reader line = not (may_choose line) && not (is_bare reader line)
is_other false reader line = not (is_bare reader line)

-- whether it does so with one of some lines
abbrev pub has_other : Bool → Reader → List (List ℕ) → Bool
has_other chooses reader lines = list_any (is_other chooses reader) lines

-- whether lines tell the form, whatever follows: they choose it, or if a word names it, the reader reads or refuses one
abbrev pub tells : Bool → Reader → List (List ℕ) → Bool
tells true reader lines = suffice (filter may_choose lines)
tells false reader lines = has_other false reader lines

-- lines, and those behind them up to the first with which they tell the form
unfoldable pub until_told : Bool → Reader → List (List ℕ) → List (List ℕ) → List (List ℕ)
until_told chooses reader before [] = before
until_told chooses reader before (line ∷ lines) =
    if tells chooses reader (before ++ line ∷ []) then before ++ line ∷ [] else until_told chooses reader (before ++ line ∷ []) lines

-- the stamps at the front of an input, by the number of the reader that is chosen, or by whether all lines are bare
abbrev pub look_by : Option ℕ → Bool → Look
look_by (Some number) are_bare = Chosen number
look_by None true = Bare
look_by None false = Readable

-- the stamps at the front of an input with these first lines, by whether one of them ends and has text
abbrev pub look_of : Bool → Reader → Bool → List (List ℕ) → Look
look_of chooses reader has_text lines = look_by (choice_of (choosing chooses lines)) (has_text && not (has_other chooses reader lines))

-- ---- the lines of a text

-- whether there are lines
abbrev pub has_lines : List (List ℕ) → Bool
has_lines [] = false
has_lines (line ∷ lines) = true

-- whether a line has bytes
abbrev pub has_bytes : List ℕ → Bool
has_bytes [] = false
has_bytes (byte ∷ line) = true

-- the lines with bytes that end between two places of a text
abbrev pub ended_lines : ℕ → ℕ → List ℕ → List (List ℕ)
ended_lines first from head = filter has_bytes (ended_from [] (between first from head))

-- the line between two places of a text
abbrev pub line_at : List ℕ → ℕ × ℕ → List ℕ
line_at head span = between span.0 span.1 head

-- two places stand in a text, one behind the other
abbrev pub IsWithin : List ℕ → ℕ × ℕ → Type 0
IsWithin head span = (span.0 < span.1) × (span.1 ≤ length head)

-- what is known of an input behind some of its lines, no fewer of which tell the form
pub record Looked (reader : Reader) (head : List ℕ) (lines : List (List ℕ)) (leading : Leading) : Type 0 where
  pub is_refused : leading.is_refused ≡ has_other leading.chooses reader lines
  pub is_told : leading.is_told ≡ tells leading.chooses reader lines
  pub found : map (line_at head) leading.found ≡ choosing leading.chooses lines
  pub within : All (IsWithin head) leading.found
  pub first : (more : List (List ℕ)) → until_told leading.chooses reader [] (lines ++ more)
      ≡ (if leading.is_told then lines else until_told leading.chooses reader lines more)

-- what is known of an input behind those of its lines with text that end between two places of a head
pub record Stands (reader : Reader) (first : ℕ) (head : List ℕ) (leading : Leading) : Type 0 where
  pub low : first ≤ leading.from
  pub high : leading.from ≤ length head
  pub cut : rest_from [] (between first leading.from head) ≡ []
  pub has_text : leading.has_text ≡ has_lines (ended_lines first leading.from head)
  pub looked : Looked reader head (ended_lines first leading.from head) leading

-- ---- the first bytes of an input

-- the last line, which no line feed ends, if it is looked at and has bytes
abbrev pub last_line : Bool → List ℕ → List (List ℕ)
last_line true rest = unless_empty rest
last_line false rest = []

-- the lines of the first bytes, behind a byte order mark of this length: those that a line feed ends, and the last one if it is looked at
abbrev pub lines_within : Bool → ℕ → List ℕ → List (List ℕ)
lines_within has_last first block = ended_lines first (length block) block ++ last_line has_last (rest_from [] (drop first block))

-- whether a line of the first bytes ends
abbrev pub has_ended : ℕ → List ℕ → Bool
has_ended first block = has_lines (ended_lines first (length block) block)

-- whether the last line is looked at: at the end of the input, or where no other line ends and the first bytes are as many as they can be
abbrev pub has_last : Bool → Bool → List ℕ → Bool
has_last is_at_end has_ended block = is_at_end || (not has_ended && nat_le 65536 (length block))

-- the stamps at the front of an input, by its first 65,536 bytes
abbrev pub look_within : Bool → Reader → ℕ → Bool → List ℕ → Look
look_within chooses reader first is_at_end block =
    look_of chooses reader (has_ended first block) (until_told chooses reader [] (lines_within (has_last is_at_end (has_ended first block) block) first block))

-- some of the first of these lines tell the form
pub record HasTold (chooses : Bool) (reader : Reader) (lines : List (List ℕ)) : Type 0 where
  pub told : List (List ℕ)
  pub more : List (List ℕ)
  pub split : lines ≡ told ++ more
  pub is_told : tells chooses reader told ≡ true

-- a look at an input finds the stamps at its front by the bytes that were read ahead. Fewer than 65,536 of them are enough where their
-- lines tell the form, at the end of the input, and behind a read that failed
pub record LooksAt (chooses : Bool) (reader : Reader) (first : ℕ) (head : List ℕ) (IsEnd : Type 0) (has_failed : Bool) (look : Look) : Type 0 where
  pub is_at_end : Bool
  pub end : is_at_end ≡ true → IsEnd
  pub finds : look ≡ look_within chooses reader first is_at_end (take 65536 head)
  pub enough : is_at_end ≡ false → has_failed ≡ false → length head < 65536
      → HasTold chooses reader (ended_lines first (length head) head)

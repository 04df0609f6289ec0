-- The line that a message shows where the first lines have no stamp, and the part of it that a form fits.
use Rattle.std.specs.Prelude.{◌≡◌, ℕ, ◌+◌, ◌-◌, ◌<◌, ◌≤◌, ◌==◌, ◌&&◌, not, nat_le, min, List, [], ◌∷◌, ◌++◌, All, drop, length, map, slice_get, take}
use Rattle.std.specs.Prelude.{if◌then◌else◌, Option, Some, None}
use Rattle.std.specs.List.{take_while}
use Rattle.std.specs.Option.{option_and_then, option_map}
use Rattle.std.specs.Result.{result_ok}
use Rattle.line_devices.specs.Lines.{whole_lines_of}
use Rattle.log_forms.specs.Choices.{choice_of}
use Rattle.stamps.specs.Choosing.{stamp_by}

-- the reader that a text chooses alone, and the place where the stamp ends that it reads there
unfoldable pub fit_of : List ℕ → Option (ℕ × ℕ)
fit_of text =
    option_and_then (λ number. option_map (λ stamp. (number, stamp.start + stamp.length)) (result_ok (stamp_by number text))) (choice_of (text ∷ []))

-- no beginning of a line, of so many bytes at most, has a stamp
abbrev pub FitsNone : List ℕ → ℕ → Type 0
FitsNone line most = (count : ℕ) → 0 < count → count ≤ most → fit_of (take count line) ≡ None

-- of the beginnings of a line, of so many bytes at most, the longest that has a stamp is read by this reader, and this text follows the stamp
pub record IsLongest (line : List ℕ) (most number : ℕ) (rest : List ℕ) : Type 0 where
  pub count : ℕ
  pub end : ℕ
  pub some : 0 < count
  pub short : count ≤ most
  pub fits : fit_of (take count line) ≡ Some (number, end)
  pub longest : (more : ℕ) → count < more → more ≤ most → fit_of (take more line) ≡ None
  pub behind : rest ≡ drop end line

-- the most bytes of a line that are tried
abbrev pub tried_of : List ℕ → ℕ
tried_of line = min (length line) 100

-- no form fits a beginning of a line
abbrev pub HasNoFit : List ℕ → Type 0
HasNoFit line = FitsNone line (tried_of line)

-- of some lines, this one by its number from 1 on is the first of which a form fits a beginning: the form of this reader, before this text
pub record IsNearest (lines : List (List ℕ)) (number reader : ℕ) (rest : List ℕ) : Type 0 where
  pub line : List ℕ
  pub first : 1 ≤ number
  pub is : slice_get lines (number - 1) ≡ Some line
  pub longest : IsLongest line (tried_of line) reader rest
  pub before : All HasNoFit (take (number - 1) lines)

-- the lines that are tried: so many of the first that a line feed ends
abbrev pub tried_lines : ℕ → List ℕ → List (List ℕ)
tried_lines most head = take most (whole_lines_of head)

-- a byte as a message shows it: a question mark in place of a quote, and of a byte that is no letter or sign of ASCII
abbrev pub shown_byte : ℕ → ℕ
shown_byte byte = if (nat_le 32 byte && nat_le byte 126) && not (byte == 34) then byte else 63

-- the bytes of a text before its first blank
abbrev pub word_of : List ℕ → List ℕ
word_of text = take_while (λ byte. not (byte == 32)) text

-- the first word of a text, with the byte before it, as a message shows it: of its first 20 bytes two, and those up to a blank after them
abbrev pub shown_text : List ℕ → List ℕ
shown_text rest =
    let text = take 20 rest in map shown_byte (take 2 text) ++ map shown_byte (word_of (drop 2 text))

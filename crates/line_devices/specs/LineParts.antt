-- The lines of an input that comes in parts: `piece` is the beginning of a line, from the parts before.
use Rattle.std.specs.Prelude.{◌≢◌, ℕ, ◌≤◌, ◌<◌, get_or, List, [], ◌∷◌, ◌++◌, ◌==◌, if◌then◌else◌}

-- the lines that the line feeds of `input` end
unfoldable pub ended_from : List ℕ → List ℕ → List (List ℕ)
ended_from piece [] = []
ended_from piece (byte ∷ input) =
    if byte == 10 then piece ∷ ended_from [] input else ended_from (piece ++ byte ∷ []) input

-- the bytes after the last line feed
unfoldable pub rest_from : List ℕ → List ℕ → List ℕ
rest_from piece [] = piece
rest_from piece (byte ∷ input) =
    if byte == 10 then rest_from [] input else rest_from (piece ++ byte ∷ []) input

-- the byte is at no place of the text from one place to another
abbrev pub HasNone : ℕ → List ℕ → ℕ → ℕ → Type 0
HasNone byte text from to = (k : ℕ) → from ≤ k → k < to → get_or text k 0 ≢ byte

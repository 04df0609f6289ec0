-- The lines of an input.
use Rattle.std.specs.Prelude.{ℕ, List, [], ◌∷◌, ◌==◌}
use Rattle.std.specs.List.{slice_split}

-- the pieces of the input, cut at its line feeds, which drop out
abbrev pub pieces_of : List ℕ → List (List ℕ)
pieces_of input = slice_split (λ byte. byte == 10) input

-- the pieces without the last one
abbrev pub without_last : List (List ℕ) → List (List ℕ)
without_last [] = []
without_last (piece ∷ []) = []
without_last (piece ∷ next ∷ pieces) = piece ∷ without_last (next ∷ pieces)

-- the piece, if it is not empty
abbrev pub unless_empty : List ℕ → List (List ℕ)
unless_empty [] = []
unless_empty (byte ∷ piece) = (byte ∷ piece) ∷ []

-- the pieces without the last one if it is empty
abbrev pub without_empty_last : List (List ℕ) → List (List ℕ)
without_empty_last [] = []
without_empty_last (piece ∷ []) = unless_empty piece
without_empty_last (piece ∷ next ∷ pieces) = piece ∷ without_empty_last (next ∷ pieces)

-- the lines of an input: the bytes before each line feed, and the bytes after the last line feed if there are any
abbrev pub lines_of : List ℕ → List (List ℕ)
lines_of input = without_empty_last (pieces_of input)

-- the lines that a line feed ends
abbrev pub whole_lines_of : List ℕ → List (List ℕ)
whole_lines_of input = without_last (pieces_of input)

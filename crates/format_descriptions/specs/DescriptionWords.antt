-- The words of descriptions, at the front of a text.
use Rattle.std.specs.Prelude.{ℕ, ◌==◌, ◌||◌, ◌&&◌, Bool, true, false, List, [], ◌∷◌, if◌then◌else◌, Option, Some, None}

-- white space between words: a space, a tab, a line feed, a form feed or a carriage return
abbrev pub is_white_space : ℕ → Bool
is_white_space b = b == 32 || (b == 9 || (b == 10 || (b == 12 || b == 13)))

-- no byte of a word is at the front: white space, a bracket or the end
unfoldable pub ends_word : List ℕ → Bool
ends_word [] = true
ends_word (first ∷ text) = first == 91 || (first == 93 || is_white_space first)

-- this word is at the front, whole
unfoldable pub is_word_at : List ℕ → List ℕ → Bool
is_word_at [] text = ends_word text
is_word_at (letter ∷ word) [] = false
is_word_at (letter ∷ word) (first ∷ text) = first == letter && is_word_at word text

-- the rest of a text after this name, which a colon ends
unfoldable pub name_rest : List ℕ → List ℕ → Option (List ℕ)
name_rest [] text = Some text
name_rest (letter ∷ name) [] = None
name_rest (letter ∷ name) (first ∷ text) = if first == letter then name_rest name text else None

-- The fields between separators.
use Rattle.std.specs.Prelude.{ℕ, List, [], ◌∷◌, length, ◌==◌, Option, Some, None}
use Rattle.std.specs.Borrow.{Bor}
use Rattle.std.specs.List.{slice_split}
use Rattle.std.specs.Option.{option_map, option_map_or, option_and_then}

-- the fields between the bytes of this value, without these bytes
abbrev pub cut_at : ℕ → List ℕ → List (List ℕ)
cut_at separator text = slice_split (λ byte. byte == separator) text

-- the words of a line, between its spaces
abbrev pub words_of : List ℕ → List (List ℕ)
words_of line = cut_at 32 line

-- the arguments of a call, between their commas
abbrev pub arguments_of : List ℕ → List (List ℕ)
arguments_of text = cut_at 44 text

-- the words of the rest of a line, if there is one
abbrev pub words_left : Option (Bor (List ℕ)) → List (List ℕ)
words_left left = option_map_or (λ text. words_of text.now) left []

-- the number of bytes of the rest of a line
abbrev pub bytes_left : Option (Bor (List ℕ)) → ℕ
bytes_left left = option_map_or (λ text. length text.now) left 0

-- the one field
unfoldable pub exactly_one : {A : Type 0} → List A → Option A
exactly_one [] = None
exactly_one (first ∷ []) = Some first
exactly_one (first ∷ next ∷ fields) = None

-- the two fields
unfoldable pub exactly_two : {A : Type 0} → List A → Option (A × A)
exactly_two [] = None
exactly_two (first ∷ fields) = option_map (λ second. (first, second)) (exactly_one fields)

-- the three fields
unfoldable pub exactly_three : {A : Type 0} → List A → Option (A × A × A)
exactly_three [] = None
exactly_three (first ∷ fields) = option_map (λ others. (first, others.0, others.1)) (exactly_two fields)

-- the four fields
unfoldable pub exactly_four : {A : Type 0} → List A → Option (A × A × A × A)
exactly_four [] = None
exactly_four (first ∷ fields) = option_map (λ others. (first, others.0, others.1, others.2)) (exactly_three fields)

-- the values of the words, if all of them are valid
unfoldable pub all_of : {A : Type 0} → (List ℕ → Option A) → List (List ℕ) → Option (List A)
all_of read [] = Some []
all_of read (word ∷ words) = option_and_then (λ first. option_map (λ others. first ∷ others) (all_of read words)) (read word)

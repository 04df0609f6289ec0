-- Bytes at the front of a text.
use Rattle.std.specs.Prelude.{ℕ, ◌==◌, ◌||◌, Bool, List, [], ◌∷◌, if◌then◌else◌, Option, Some, None}
use Rattle.rfc3339.specs.Reading.{◌>>=◌, mark_at}

-- a space or a tab
abbrev pub is_blank : ℕ → Bool
is_blank byte = (byte == 32) || (byte == 9)

-- the rest after the blanks at the front
unfoldable pub past_blanks : List ℕ → List ℕ
past_blanks [] = []
past_blanks (byte ∷ text) = if is_blank byte then past_blanks text else byte ∷ text

-- the rest after these bytes
unfoldable pub bytes_at : List ℕ → List ℕ → Option (List ℕ)
bytes_at [] text = Some text
bytes_at (byte ∷ bytes) text = mark_at byte text >>= λ rest. bytes_at bytes rest

-- the first of two texts that there is
abbrev pub first_of : Option (List ℕ) → Option (List ℕ) → Option (List ℕ)
first_of (Some text) others = Some text
first_of None others = others

-- The first line of some bytes.
use Rattle.std.specs.Prelude.{ℕ, ◌==◌, Bool, true, false, List, [], ◌∷◌, ◌++◌, if◌then◌else◌}

-- a line feed, or nothing
abbrev pub feed_if : Bool → List ℕ
feed_if true = 10 ∷ []
feed_if false = []

-- the bytes before the first line feed
unfoldable pub line_in : List ℕ → List ℕ
line_in [] = []
line_in (byte ∷ bytes) = if byte == 10 then [] else byte ∷ line_in bytes

-- whether there is a line feed
unfoldable pub has_line_feed : List ℕ → Bool
has_line_feed [] = false
has_line_feed (byte ∷ bytes) = if byte == 10 then true else has_line_feed bytes

-- the bytes after the first line feed
unfoldable pub behind_line : List ℕ → List ℕ
behind_line [] = []
behind_line (byte ∷ bytes) = if byte == 10 then bytes else behind_line bytes

-- the first line, with its line feed if it has one
abbrev pub front_line : List ℕ → List ℕ
front_line bytes = line_in bytes ++ feed_if (has_line_feed bytes)

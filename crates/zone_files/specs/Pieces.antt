-- The kinds of bytes of a rule's text, and the bytes in front that are of a kind.
use Rattle.std.specs.Prelude.{ℕ, Bool, ◌==◌, ◌||◌, true, false, List, [], ◌∷◌, if◌then◌else◌}
use Rattle.std.specs.Char.{is_ascii_digit, is_ascii_alphabetic, is_ascii_alphanumeric}
use Rattle.zone_files.specs.declared.pieces.Kind.{Kind}
use Rattle.zone_files.specs.declared.pieces.Kind.TheVariants.{Digit, Letter, Quoted, Line, Named}

-- a byte of a name between < and >: a letter, a digit or a sign
abbrev pub is_quoted : ℕ → Bool
is_quoted byte = is_ascii_alphanumeric byte || (byte == 43 || byte == 45)

-- a byte of a line
abbrev pub is_line : ℕ → Bool
is_line byte = if byte == 10 then false else true

-- a byte of an abbreviation in a file, which a zero byte ends
abbrev pub is_named : ℕ → Bool
is_named byte = if byte == 0 then false else true

-- the bytes of a kind
abbrev pub is_of : Kind → ℕ → Bool
is_of Digit byte = is_ascii_digit byte
is_of Letter byte = is_ascii_alphabetic byte
is_of Quoted byte = is_quoted byte
is_of Line byte = is_line byte
is_of Named byte = is_named byte

-- the bytes in front that pass a test
abbrev pub front : (ℕ → Bool) → List ℕ → List ℕ
front test [] = []
front test (byte ∷ bytes) = if test byte then byte ∷ front test bytes else []

-- what follows them
abbrev pub past : (ℕ → Bool) → List ℕ → List ℕ
past test [] = []
past test (byte ∷ bytes) = if test byte then past test bytes else byte ∷ bytes

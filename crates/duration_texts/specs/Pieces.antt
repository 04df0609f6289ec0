-- The kinds of bytes of a text, and the bytes in front that are of a kind.
use Rattle.std.specs.Prelude.{ℕ, zero, suc, Bool, ◌==◌, ◌||◌, nat_le, List, [], ◌∷◌, if◌then◌else◌}
use Rattle.std.specs.Char.{is_ascii_digit, is_ascii_alphabetic}
use Rattle.duration_texts.specs.declared.pieces.Kind.{Kind}
use Rattle.duration_texts.specs.declared.pieces.Kind.TheVariants.{Blank, Digit, Letter}

-- a blank between terms
abbrev pub is_blank : ℕ → Bool
is_blank byte = byte == 32

-- a byte of a word: an ASCII letter, or a byte of a character that is not of ASCII
abbrev pub is_letter : ℕ → Bool
is_letter byte = is_ascii_alphabetic byte || nat_le 128 byte

-- the bytes of a kind
abbrev pub is_of : Kind → ℕ → Bool
is_of Blank byte = is_blank byte
is_of Digit byte = is_ascii_digit byte
is_of Letter byte = is_letter byte

-- the bytes in front that pass a test
abbrev pub front : (ℕ → Bool) → List ℕ → List ℕ
front test [] = []
front test (byte ∷ bytes) = if test byte then byte ∷ front test bytes else []

-- what follows them
abbrev pub past : (ℕ → Bool) → List ℕ → List ℕ
past test [] = []
past test (byte ∷ bytes) = if test byte then past test bytes else byte ∷ bytes

-- a number of blanks
abbrev pub blanks : ℕ → List ℕ
blanks zero = []
blanks (suc n) = 32 ∷ blanks n

-- The grammar of JSON, as RFC 8259 has it: a text derives a value, and an object has members.
use Rattle.std.specs.Prelude.{ℕ, ◌==◌, ◌&&◌, ◌||◌, not, nat_le, Bool, List, [], ◌∷◌, ◌++◌, codes, IsTrue}
use Rattle.std.specs.Char.{is_ascii_digit}
use Rattle.std.specs.List.{list_all}

-- ---- bytes

-- white space: a space, a tab, a line feed or a carriage return (section 2)
abbrev pub is_white_space : ℕ → Bool
is_white_space byte = (byte == 32) || ((byte == 9) || ((byte == 10) || (byte == 13)))

-- a byte of a string that stands for itself: no quote, no backslash, no control character (section 7)
abbrev pub is_unescaped : ℕ → Bool
is_unescaped byte = nat_le 32 byte && (not (byte == 34) && not (byte == 92))

-- a byte after a backslash: `"`, `\`, `/`, `b`, `f`, `n`, `r` or `t` (section 7)
abbrev pub is_escape : ℕ → Bool
is_escape byte =
    (byte == 34) || ((byte == 92) || ((byte == 47) || ((byte == 98) || ((byte == 102) || ((byte == 110) || ((byte == 114) || (byte == 116)))))))

-- a hexadecimal digit
abbrev pub is_hex : ℕ → Bool
is_hex byte = is_ascii_digit byte || ((nat_le 65 byte && nat_le byte 70) || (nat_le 97 byte && nat_le byte 102))

-- a digit but zero
abbrev pub is_first_digit : ℕ → Bool
is_first_digit byte = nat_le 49 byte && nat_le byte 57

-- ---- white space, strings, numbers and literals

-- bytes of white space, of which there may be none
pub data DerivesBlank : List ℕ → Type 0 where
  no_white : DerivesBlank []
  white : {byte : ℕ} {text : List ℕ} → IsTrue (is_white_space byte) → DerivesBlank text → DerivesBlank (byte ∷ text)

-- the bytes between the quotes of a string (section 7)
pub data DerivesCharacters : List ℕ → Type 0 where
  no_more : DerivesCharacters []
  unescaped : {byte : ℕ} {text : List ℕ} → IsTrue (is_unescaped byte) → DerivesCharacters text → DerivesCharacters (byte ∷ text)
  escaped : {byte : ℕ} {text : List ℕ} → IsTrue (is_escape byte) → DerivesCharacters text → DerivesCharacters (92 ∷ byte ∷ text)
  coded : {a b c d : ℕ} {text : List ℕ} → IsTrue (is_hex a && (is_hex b && (is_hex c && is_hex d))) → DerivesCharacters text
      → DerivesCharacters (92 ∷ 117 ∷ a ∷ b ∷ c ∷ d ∷ text)

-- one digit or more
pub data DerivesDigits : List ℕ → Type 0 where
  digits : {digit : ℕ} {others : List ℕ} → IsTrue (is_ascii_digit digit) → IsTrue (list_all is_ascii_digit others)
      → DerivesDigits (digit ∷ others)

-- `0`, or digits of which the first is another
pub data DerivesInteger : List ℕ → Type 0 where
  zero_digit : DerivesInteger (codes "0")
  first_digit : {digit : ℕ} {others : List ℕ} → IsTrue (is_first_digit digit) → IsTrue (list_all is_ascii_digit others)
      → DerivesInteger (digit ∷ others)

-- a minus sign, or nothing
pub data DerivesMinus : List ℕ → Type 0 where
  no_minus : DerivesMinus []
  minus : DerivesMinus (codes "-")

-- a point and digits, or nothing
pub data DerivesFraction : List ℕ → Type 0 where
  no_fraction : DerivesFraction []
  fraction : {digits : List ℕ} → DerivesDigits digits → DerivesFraction (46 ∷ digits)

-- the sign of an exponent, or nothing
pub data DerivesSign : List ℕ → Type 0 where
  no_sign : DerivesSign []
  minus_sign : DerivesSign (codes "-")
  plus_sign : DerivesSign (codes "+")

-- `e` or `E`, a sign and digits, or nothing
pub data DerivesExponent : List ℕ → Type 0 where
  no_exponent : DerivesExponent []
  exponent : {letter : ℕ} {sign digits : List ℕ} → IsTrue ((letter == 69) || (letter == 101)) → DerivesSign sign → DerivesDigits digits
      → DerivesExponent (letter ∷ (sign ++ digits))

-- a number (section 6)
pub data DerivesNumber : List ℕ → Type 0 where
  number : {minus integer fraction exponent : List ℕ} → DerivesMinus minus → DerivesInteger integer → DerivesFraction fraction
      → DerivesExponent exponent → DerivesNumber (minus ++ (integer ++ (fraction ++ exponent)))

-- a literal name (section 3)
pub data DerivesLiteral : List ℕ → Type 0 where
  literal_true : DerivesLiteral (codes "true")
  literal_false : DerivesLiteral (codes "false")
  literal_null : DerivesLiteral (codes "null")

-- ---- values

-- what a text can be: a value, the elements of an array, or the members of an object
pub data Piece : Type 0 where
  Value : Piece
  Elements : Piece
  Members : Piece

-- the text derives this piece (sections 3 to 5); white space stands around each element and each part of a member
pub data Derives : Piece → List ℕ → Type 0 where
  literal : {text : List ℕ} → DerivesLiteral text → Derives Value text
  number : {text : List ℕ} → DerivesNumber text → Derives Value text
  string : {text : List ℕ} → DerivesCharacters text → Derives Value (34 ∷ (text ++ 34 ∷ []))
  empty_array : {blank : List ℕ} → DerivesBlank blank → Derives Value (91 ∷ (blank ++ 93 ∷ []))
  array : {elements : List ℕ} → Derives Elements elements → Derives Value (91 ∷ (elements ++ 93 ∷ []))
  empty_object : {blank : List ℕ} → DerivesBlank blank → Derives Value (123 ∷ (blank ++ 125 ∷ []))
  object : {members : List ℕ} → Derives Members members → Derives Value (123 ∷ (members ++ 125 ∷ []))
  last_element : {before value after : List ℕ} → DerivesBlank before → Derives Value value → DerivesBlank after
      → Derives Elements (before ++ (value ++ after))
  element : {before value after others : List ℕ} → DerivesBlank before → Derives Value value → DerivesBlank after → Derives Elements others
      → Derives Elements (before ++ (value ++ (after ++ 44 ∷ others)))
  last_member : {before name between blank value after : List ℕ} → DerivesBlank before → DerivesCharacters name → DerivesBlank between → DerivesBlank blank
      → Derives Value value → DerivesBlank after
      → Derives Members (before ++ 34 ∷ (name ++ 34 ∷ (between ++ 58 ∷ (blank ++ (value ++ after)))))
  member : {before name between blank value after others : List ℕ} → DerivesBlank before → DerivesCharacters name → DerivesBlank between → DerivesBlank blank
      → Derives Value value → DerivesBlank after → Derives Members others
      → Derives Members (before ++ 34 ∷ (name ++ 34 ∷ (between ++ 58 ∷ (blank ++ (value ++ (after ++ 44 ∷ others))))))

-- ---- members

-- a member of an object: the bytes between the quotes of its name, and the text from its value on
pub record Member : Type 0 where
  pub name : List ℕ
  pub value : List ℕ

-- the members of an object in their order, by their derivation, where this text follows them
unfoldable pub members_of : List ℕ → (members : List ℕ) → Derives Members members → List Member
members_of rest _ (last_member {name} {value} {after} b n w k v a) = record { name = name; value = value ++ (after ++ rest) } ∷ []
members_of rest _ (member {name} {value} {after} {others} b n w k v a o) =
    record { name = name; value = value ++ (after ++ 44 ∷ (others ++ rest)) } ∷ members_of rest others o

-- the text is an object with these members, where this rest follows it
pub data IsObject (rest : List ℕ) : List ℕ → List Member → Type 0 where
  no_members : {blank : List ℕ} → DerivesBlank blank → IsObject rest (123 ∷ (blank ++ 125 ∷ [])) []
  some_members : {text : List ℕ} (d : Derives Members text) → IsObject rest (123 ∷ (text ++ 125 ∷ [])) (members_of (125 ∷ rest) text d)

-- The grammar of the file of a time zone: its bytes derive its parts.
use Rattle.std.specs.Prelude.{ℕ, ◌+◌, ◌*◌, ◌<◌, ◌≤◌, ◌≡◌, ◌≢◌, ◌⊎◌, true, false, IsTrue, List, [], ◌∷◌, ◌++◌, length, Option, Some, None}
use Rattle.std.specs.List.{list_all}
use Rattle.calendar_values.specs.Offsets.{IsOffset}
use Rattle.zone_files.specs.Blocks.{BlockParts, byte_at, signed_word_at, counts_of, is_magic, is_unix_time, is_version, marks}
use Rattle.zone_files.specs.FileReading.{FileParts}
use Rattle.zone_files.specs.Grammar.{Derives}
use Rattle.zone_files.specs.Pieces.{is_line}
use Rattle.zone_files.specs.Rules.{RuleParts}
use Rattle.zone_files.specs.declared.counts.Counts.{Counts}

-- a header of 44 bytes has these counts
pub record DerivesHeader (bytes : List ℕ) (counts : Counts) : Type 0 where
  pub long : length bytes ≡ 44
  pub magic : IsTrue (is_magic bytes)
  pub version : IsTrue (is_version (byte_at bytes 4))
  pub unix : IsTrue (is_unix_time bytes)
  pub value : counts ≡ counts_of bytes

-- a block with these counts, whose seconds have that many bytes
pub record DerivesBlock (size : ℕ) (counts : Counts) (bytes : List ℕ) (block : BlockParts) : Type 0 where
  pub rest : List ℕ
  pub spelled : bytes ≡ block.times ++ (block.indexes ++ (block.types ++ (block.names ++ rest)))
  pub times : length block.times ≡ counts.times * size
  pub indexes : length block.indexes ≡ counts.times
  pub types : length block.types ≡ counts.types * 6
  pub names : length block.names ≡ counts.names
  pub marks : length rest ≡ marks counts

-- a kind of local time has an offset in range, a mark of daylight saving time, and an abbreviation
pub record IsKind (block : BlockParts) (k : ℕ) : Type 0 where
  pub offset : IsOffset (signed_word_at block.types (6 * k))
  pub daylight : byte_at block.types (6 * k + 4) ≤ 1
  pub name : byte_at block.types (6 * k + 5) < length block.names

-- a block has kinds of local time, each transition leads to one of them, and the last abbreviation ends with a zero byte
pub record IsSound (count : ℕ) (block : BlockParts) : Type 0 where
  pub some : 0 < count
  pub indexes : (i : ℕ) → i < length block.indexes → byte_at block.indexes i < count
  pub kinds : (k : ℕ) → k < count → IsKind block k
  pub named : 0 < length block.names
  pub last : (k : ℕ) → k + 1 ≡ length block.names → byte_at block.names k ≡ 0

-- a line with a rule, or an empty one
abbrev pub DerivesLine : List ℕ → Option RuleParts → Type 0
DerivesLine [] rule = rule ≡ None
DerivesLine (byte ∷ bytes) rule = (found : RuleParts) × (rule ≡ Some found) × Derives (byte ∷ bytes) found

-- a line between two new lines
pub record DerivesFooter (bytes : List ℕ) (rule : Option RuleParts) : Type 0 where
  pub line : List ℕ
  pub spelled : bytes ≡ 10 ∷ (line ++ 10 ∷ [])
  pub one_line : IsTrue (list_all is_line line)
  pub has_rule : DerivesLine line rule

-- version 1: a header and a block; what follows is not read
pub record DerivesFirst (bytes : List ℕ) (file : FileParts) : Type 0 where
  pub header : List ℕ
  pub block : List ℕ
  pub more : List ℕ
  pub counts : Counts
  pub spelled : bytes ≡ header ++ (block ++ more)
  pub has_header : DerivesHeader header counts
  pub version : counts.version ≡ 0
  pub has_block : DerivesBlock 4 counts block file.block
  pub sound : IsSound counts.types file.block
  pub count : file.count ≡ counts.types
  pub wide : file.wide ≡ false
  pub rule : file.rule ≡ None

-- versions 2 to 4: a header and a block that is passed over, then the same with seconds of eight bytes, and a rule
pub record DerivesLater (bytes : List ℕ) (file : FileParts) : Type 0 where
  pub header : List ℕ
  pub passed : List ℕ
  pub second : List ℕ
  pub block : List ℕ
  pub footer : List ℕ
  pub more : List ℕ
  pub counts : Counts
  pub skipped : BlockParts
  pub others : Counts
  pub spelled : bytes ≡ header ++ (passed ++ (second ++ (block ++ (footer ++ more))))
  pub has_header : DerivesHeader header counts
  pub version : counts.version ≢ 0
  pub has_passed : DerivesBlock 4 counts passed skipped
  pub has_second : DerivesHeader second others
  pub same : others.version ≡ counts.version
  pub has_block : DerivesBlock 8 others block file.block
  pub sound : IsSound others.types file.block
  pub has_footer : DerivesFooter footer file.rule
  pub count : file.count ≡ others.types
  pub wide : file.wide ≡ true

-- the bytes derive a file of these parts
abbrev pub DerivesFile : List ℕ → FileParts → Type 0
DerivesFile bytes file = DerivesFirst bytes file ⊎ DerivesLater bytes file

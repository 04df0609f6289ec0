-- The headers and the blocks of a file of a time zone, as RFC 9636 has them.
use Rattle.std.specs.Prelude.{ℕ, ◌+◌, ◌*◌, ◌==◌, ◌&&◌, ◌||◌, nat_lt, ℤ, pos, ◌-ℤ◌, ◌+ℤ◌, ◌*ℤ◌, Bool, List, get_or, length, take, drop}
use Rattle.std.specs.Prelude.{Result, Ok, Err, if◌then◌else◌}
use Rattle.zone_files.specs.Reading.{◌>>=◌}
use Rattle.zone_files.specs.declared.counts.Counts.{Counts}
use Rattle.zone_files.specs.declared.file_faults.FilePart.{FilePart}
use Rattle.zone_files.specs.declared.file_faults.FilePart.TheVariants.{Length, Magic, Version, LeapSeconds}
use Rattle.zone_files.specs.declared.file_faults.FileStop.{FileStop}

-- a fault at the beginning of what is left of the file
abbrev pub file_stop : FilePart → List ℕ → FileStop
file_stop part bytes = record { part = part; left = length bytes }

-- the byte at a place
abbrev pub byte_at : List ℕ → ℕ → ℕ
byte_at bytes k = get_or bytes k 0

-- the number of four bytes from a place on, the highest first
abbrev pub word_at : List ℕ → ℕ → ℕ
word_at bytes k = byte_at bytes k * 16_777_216 + byte_at bytes (k + 1) * 65_536 + byte_at bytes (k + 2) * 256 + byte_at bytes (k + 3)

-- the same with a sign
abbrev pub signed_word_at : List ℕ → ℕ → ℤ
signed_word_at bytes k =
    if nat_lt (word_at bytes k) 2_147_483_648 then pos (word_at bytes k) else pos (word_at bytes k) -ℤ pos 4_294_967_296

-- the number of eight bytes with a sign
abbrev pub long_at : List ℕ → ℕ → ℤ
long_at bytes k = signed_word_at bytes k *ℤ pos 4_294_967_296 +ℤ pos (word_at bytes (k + 4))

-- how many bytes in front, or the end of the file, and what follows them
unfoldable pub piece_at : ℕ → List ℕ → Result (List ℕ × List ℕ) FileStop
piece_at n bytes = if nat_lt (length bytes) n then Err (record { part = Length; left = 0 }) else Ok (take n bytes, drop n bytes)

-- a header begins with TZif
abbrev pub is_magic : List ℕ → Bool
is_magic header = (byte_at header 0 == 84) && ((byte_at header 1 == 90) && ((byte_at header 2 == 105) && (byte_at header 3 == 102)))

-- the versions 1, 2, 3 and 4: the first has a zero byte
abbrev pub is_version : ℕ → Bool
is_version byte = (byte == 0) || ((byte == 50) || ((byte == 51) || (byte == 52)))

-- the seconds are those of Unix time: the header counts no leap seconds
unfoldable pub is_unix_time : List ℕ → Bool
is_unix_time header = word_at header 28 == 0

-- the counts of a header
abbrev pub counts_of : List ℕ → Counts
counts_of header = record {
  version = byte_at header 4;
  ut = word_at header 20;
  standard = word_at header 24;
  times = word_at header 32;
  types = word_at header 36;
  names = word_at header 40;
}

-- the counts of a header, unless it counts leap seconds
abbrev pub unix_header : List ℕ → List ℕ → List ℕ → Result (Counts × List ℕ) FileStop
unix_header header rest bytes =
    if is_unix_time header then Ok (counts_of header, rest) else Err (file_stop LeapSeconds (drop 28 bytes))

-- a header of 44 bytes, and what follows it
abbrev pub checked_header : List ℕ → List ℕ → List ℕ → Result (Counts × List ℕ) FileStop
checked_header header rest bytes =
    if is_magic header
    then (if is_version (byte_at header 4) then unix_header header rest bytes else Err (file_stop Version (drop 4 bytes)))
    else Err (file_stop Magic bytes)

unfoldable pub header_at : List ℕ → Result (Counts × List ℕ) FileStop
header_at bytes = piece_at 44 bytes >>= (λ header. checked_header header.0 header.1 bytes)

-- a block without the marks, which do not tell how local time runs
pub record BlockParts : Type 0 where
  pub times : List ℕ
  pub indexes : List ℕ
  pub types : List ℕ
  pub names : List ℕ

-- the bytes of the marks
abbrev pub marks : Counts → ℕ
marks counts = counts.standard + counts.ut

-- a block whose seconds have that many bytes, and what follows it
unfoldable pub block_at : ℕ → Counts → List ℕ → Result (BlockParts × List ℕ) FileStop
block_at size counts bytes = do
  times ← piece_at (counts.times * size) bytes
  indexes ← piece_at counts.times times.1
  types ← piece_at (counts.types * 6) indexes.1
  names ← piece_at counts.names types.1
  rest ← piece_at (marks counts) names.1
  Ok (record { times = times.0; indexes = indexes.0; types = types.0; names = names.0 }, rest.1)

-- The names of zones.
use Rattle.std.specs.Prelude.{ℕ, ◌-◌, ◌<◌, ◌≢◌, ◌==◌, ◌||◌, Bool, false, true, IsTrue, List, length, if◌then◌else◌}
use Rattle.std.specs.Char.{is_ascii_alphanumeric}
use Rattle.zone_files.specs.Blocks.{byte_at}

-- a byte of a part that may stand anywhere in it: a letter, a digit or a sign
abbrev pub is_plain : ℕ → Bool
is_plain byte = is_ascii_alphanumeric byte || (byte == 43 || (byte == 45 || byte == 95))

-- whether a byte may follow the one before it: no slash and no full stop begins a part
abbrev pub may_follow : ℕ → ℕ → Bool
may_follow before byte = if (byte == 47 || byte == 46) then (if before == 47 then false else true) else is_plain byte

-- the byte before a place; a slash before the first one
abbrev pub byte_before : List ℕ → ℕ → ℕ
byte_before text k = if k == 0 then 47 else byte_at text (k - 1)

-- a text can be the name of a zone: each byte may follow the one before it, and its last part is not empty
pub record IsZoneName (text : List ℕ) : Type 0 where
  pub follows : (k : ℕ) → k < length text → IsTrue (may_follow (byte_before text k) (byte_at text k))
  pub ends : byte_before text (length text) ≢ 47

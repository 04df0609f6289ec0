-- The number of bytes of a text that are valid in a date-time without an offset.
use Rattle.std.specs.Prelude.{ℕ, suc, ◌+◌, ◌==◌, Bool, nat_lt, List, [], ◌∷◌, if◌then◌else◌}
use Rattle.std.specs.Char.{is_ascii_digit}
use Rattle.rfc3339.specs.Faults.{may_stand}

-- whether a byte is valid at a place: those of the date and of the time of day, then a point, then digits
unfoldable pub is_valid_at : ℕ → ℕ → Bool
is_valid_at place byte =
    if nat_lt place 19 then may_stand place byte else (if place == 19 then byte == 46 else is_ascii_digit byte)

-- the number of bytes that are valid at their places, from this place on
unfoldable pub valid_bytes : ℕ → List ℕ → ℕ
valid_bytes place [] = 0
valid_bytes place (byte ∷ text) = if is_valid_at place byte then suc (valid_bytes (place + 1) text) else 0

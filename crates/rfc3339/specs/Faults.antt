-- The number of bytes of a text that are valid in a date-time of RFC 3339: byte by byte, through the places of the form.
use Rattle.std.specs.Prelude.{ℕ, suc, ◌+◌, ◌==◌, ◌||◌, Bool, nat_lt, List, [], ◌∷◌, if◌then◌else◌}
use Rattle.std.specs.Char.{is_ascii_digit}
use Rattle.rfc3339.specs.Form.{is_separator}

-- whether a byte is valid at one of the 19 places of the date and of the time of day
unfoldable pub may_stand : ℕ → ℕ → Bool
may_stand place byte =
    if (place == 4) || (place == 7) then byte == 45
    else (if place == 10 then is_separator byte
    else (if (place == 13) || (place == 16) then byte == 58
    else is_ascii_digit byte))

-- the place after the first byte of an offset
unfoldable pub place_in_offset : ℕ → ℕ
place_in_offset byte = if (byte == 90) || (byte == 122) then 27 else (if (byte == 43) || (byte == 45) then 22 else 28)

-- the place after a byte, or 28 after one that is invalid there. Place 19 is before a point or an offset, 20 after the point,
-- 21 after a digit of the fraction, 22 to 26 in an offset of numbers; 27 is the end
unfoldable pub next_place : ℕ → ℕ → ℕ
next_place place byte =
    if nat_lt place 19 then (if may_stand place byte then place + 1 else 28)
    else (if place == 19 then (if byte == 46 then 20 else place_in_offset byte)
    else (if place == 20 then (if is_ascii_digit byte then 21 else 28)
    else (if place == 21 then (if is_ascii_digit byte then 21 else place_in_offset byte)
    else (if place == 24 then (if byte == 58 then 25 else 28)
    else (if nat_lt place 27 then (if is_ascii_digit byte then place + 1 else 28)
    else 28)))))

-- the number of bytes that are valid at their places, from this place on
unfoldable pub standing : ℕ → List ℕ → ℕ
standing place [] = 0
standing place (byte ∷ text) = if next_place place byte == 28 then 0 else suc (standing (next_place place byte) text)
